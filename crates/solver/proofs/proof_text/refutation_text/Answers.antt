use Rattle.std.proofs.Common.{◌∙◌, ℕ, Option, ap, subst, sym}
use Rattle.std.specs.Prelude.{map}
use Rattle.refutation.specs.Canonical.{IsCanonicalOf}
use Rattle.refutation.specs.Forms.{form_of}
use Rattle.refutation.specs.Spelling.{spelling}
use Rattle.refutation.specs.Trees.{IsAccepted}
use Rattle.refutation.proofs.FromLemmas.{owned, sound}
use Rattle.search_api.specs.Meaning.{Meaning}
use Rattle.solver.proofs.proof_text.refutation_text.Goals as goal

pub returns : goal.returns
returns g c =
    let m : Meaning = g.J.Judge.meaning c.args.j.now in
    let o = c.args.o.now in
    let nodes = c.in_ok-proof.proof.nodes in
    let lawful = g.met.J.Judge.lawful c.args.j.now in
    let is_sound = sound m o.best o.kept o.closed c.requires in
    let accepted : IsAccepted m c.in_ok-proof.proof.bound nodes = c.in_ok-proof.ensures.accepted m (sym c.shape.ensures) lawful is_sound in
    let canonical : IsCanonicalOf m c.in_ok-proof.proof.bound nodes = c.in_ok-proof.ensures.canonical m (sym c.shape.ensures) lawful is_sound (owned m o.best o.kept o.closed c.requires) in
    record {
      nodes = nodes;
      canonical = subst (λ (b : Option ℕ). IsCanonicalOf m b nodes) c.in_ok-proof.ensures.bound canonical;
      accepted = subst (λ (b : Option ℕ). IsAccepted m b nodes) c.in_ok-proof.ensures.bound accepted;
      text_is = c.in_ok-text.ensures ∙ ap (λ (b : Option ℕ). spelling b (map form_of nodes)) c.in_ok-proof.ensures.bound;
    }
