use Rattle.std.proofs.Common.{◌≡◌, ℕ, List, [], ◌∷◌, ◌++◌, sym, ap, subst, ◌∙◌, arith}
use Rattle.std.proofs.lemmas.List.{nil_from_length}
use Rattle.std.specs.Option.{option_to_list}
use Rattle.choice_rank.specs.declared.variable.VarShape.{VarShape}
use Rattle.search_api.specs.declared.outcome.Closed.{Closed}
use Rattle.search_api.specs.declared.place.Place.{Place}
use Rattle.search_api.specs.Places.{IsAt, paths_of}
use Rattle.search_api.proofs.AnswerLemmas.{answer}
use Rattle.serial_search.specs.Going.{Going, Walks}
use Rattle.serial_search.proofs.GoingLemmas.{going_done, order_done}
use Rattle.serial_search.proofs.WalkLemmas.{walks_first}
use Rattle.serial_search.proofs.walk.search_below.Given.{Over}
use Rattle.serial_search.proofs.walk.search_below.Goals as goal
use Rattle.serial_search.proofs.walk.search_below.Goals.{After-drop-scratch-2}

pub loop-place-init : goal.loop-place-init
loop-place-init g c =
    let m = g.J.Judge.meaning c.args.j.now in
    let root = c.root.result in
    let at = subst (λ (vs : List VarShape). IsAt vs root) c.shape.ensures c.root.ensures.at in
    let one : c.push.new.self.items ≡ root ∷ [] = c.in_ok-push.ensures.items ∙ ap (λ (ps : List Place). ps ++ root ∷ []) c.new.ensures.items in
    let known = c.args.known in
    let first = c.in_ok-kept.kept in
    let kept : first ≡ option_to_list known = c.in_ok-kept.ensures in
    let closed : c.of.result ≡ [] = c.of.ensures ∙ c.new-2.ensures.items in (
      c.in_ok-scratch.ensures,
      subst (λ (ps : List Place). Walks m ps known first c.of.result) (sym one)
          (subst (λ (ks : List ℕ). Walks m (root ∷ []) known ks c.of.result) (sym kept)
          (subst (λ (xs : List Closed). Walks m (root ∷ []) known (option_to_list known) xs) (sym closed)
          (walks_first m known root c.requires c.root.ensures.path at))),
    )

-- nothing is left to go
done : (g : Over) (c : After-drop-scratch-2 g) → Going (g.J.Judge.meaning c.args.j.now) [] c.loop-place.walk.best c.loop-place.walk.kept c.loop-place.walk.closed
done g c =
    let w = c.loop-place.walk in
    let nil = nil_from_length w.pending.items (omega (arith, c.in_default.ensures.cases, w.pending.ok.0)) in
    subst (λ (ps : List Place). Going (g.J.Judge.meaning c.args.j.now) (paths_of ps) w.best w.kept w.closed) nil c.loop-place.invariant.1.going

pub returns-clause-accounted : goal.returns-clause-accounted
returns-clause-accounted g c =
    let w = c.loop-place.walk in
    going_done (g.J.Judge.meaning c.args.j.now) w.best w.kept w.closed (done g (goal.at.returns-clause-accounted g c).After-drop-scratch-2)

pub returns-clause-order : goal.returns-clause-order
returns-clause-order g c =
    let w = c.loop-place.walk in
    order_done (g.J.Judge.meaning c.args.j.now) w.best w.kept w.closed (g.met.J.Judge.lawful c.args.j.now) (done g (goal.at.returns-clause-order g c).After-drop-scratch-2)

pub returns-clause-answer : goal.returns-clause-answer
returns-clause-answer g c =
    let m = g.J.Judge.meaning c.args.j.now in
    let w = c.loop-place.walk in
    answer m (g.met.J.Judge.lawful c.args.j.now) w.best w.kept w.closed (going_done m w.best w.kept w.closed (done g (goal.at.returns-clause-answer g c).After-drop-scratch-2))
