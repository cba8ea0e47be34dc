use Rattle.std.proofs.Common.{◌≡◌, ◌∙◌, ℕ, Option, sym, subst}
use Rattle.refutation.specs.Canonical.{IsCanonicalOf}
use Rattle.refutation.specs.Trees.{IsAccepted}
use Rattle.refutation.proofs.FromLemmas.{covered, owned, sound}
use Rattle.search_api.specs.Meaning.{Meaning}
use Rattle.least_search.proofs.least.nothing.Goals as goal

pub returns : goal.returns
returns g c =
    let m : Meaning = g.J.Judge.meaning c.args.j.now in
    let o = c.args.o.now in
    let nodes = c.in_ok-proof.proof.nodes in
    let lawful = g.met.J.Judge.lawful c.args.j.now in
    let is_sound = sound m o.best o.kept o.closed c.requires.accounted in
    let bound = c.in_ok-proof.ensures.bound ∙ c.requires.best in
    let accepted : IsAccepted m c.in_ok-proof.proof.bound nodes = c.in_ok-proof.ensures.accepted m (sym c.shape.ensures) lawful is_sound in
    let canonical : IsCanonicalOf m c.in_ok-proof.proof.bound nodes = c.in_ok-proof.ensures.canonical m (sym c.shape.ensures) lawful is_sound (owned m o.best o.kept o.closed c.requires.accounted) in (
      c.requires.none,
      record {
        bound = bound;
        canonical = subst (λ (b : Option ℕ). IsCanonicalOf m b nodes) bound canonical;
        accepted = subst (λ (b : Option ℕ). IsAccepted m b nodes) bound accepted;
      },
    )
