use Rattle.std.proofs.Common.{◌≡◌, ℕ, [], ◌∷◌, Option, Some, None, sym, ap, ◌∙◌}
use Rattle.box_split.specs.Boxes.{whole}
use Rattle.tree_check.specs.Faults.{fault_at, fault_from, fault_of_witness, first_of}
use Rattle.tree_check.proofs.checker.fault_at.Goals as goal

pub returns-in-Some : goal.returns-in-Some
unfolding fault_at
returns-in-Some g c =
    let m = g.R.Refuter.meaning c.args.r.now in
    let broken : Some c.in-Some.node ≡ fault_from m c.args.bound 0 c.args.nodes.now (whole m.shape ∷ []) = sym c.in-Some.is ∙ c.in_ok-broken.ensures in
    ap (λ (o : Option ℕ). first_of o (fault_of_witness c.args.bound c.args.nodes.now)) broken

pub returns-in-None : goal.returns-in-None
unfolding fault_at
returns-in-None g c =
    let m = g.R.Refuter.meaning c.args.r.now in
    let kept : None ≡ fault_from m c.args.bound 0 c.args.nodes.now (whole m.shape ∷ []) = sym c.in-None.is ∙ c.in_ok-broken.ensures in
    c.fault_of_witness.ensures ∙ ap (λ (o : Option ℕ). first_of o (fault_of_witness c.args.bound c.args.nodes.now)) kept
