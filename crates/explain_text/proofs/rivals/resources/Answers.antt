use Rattle.std.proofs.Common.{◌≡◌, ◌∙◌, ℕ, ap, arith}
use Rattle.pin_match.specs.Hall.{any_below}
use Rattle.explain_text.specs.Reasons.{is_wanted, is_wanted_by, resources}
use Rattle.explain_text.proofs.SetLemmas.{size_of}
use Rattle.explain_text.proofs.rivals.resources.Goals as goal

pub returns : goal.returns
unfolding resources
returns c =
    let p = c.args.p.now in
    let vars = c.args.vars.now in
    let all : c.loop-v.v ≡ 192 = omega arith in
    c.len.ensures
    ∙ size_of c.loop-v.found (is_wanted p c.args.class vars) (λ r l. c.loop-v.invariant r l ∙ ap (λ (n : ℕ). any_below n (is_wanted_by p c.args.class vars r)) all)
