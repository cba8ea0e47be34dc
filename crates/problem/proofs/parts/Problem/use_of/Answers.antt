use Rattle.std.proofs.Common.{◌≡◌, ◌∙◌, ◌+◌, ◌<◌, List, [], length, Some, sym, subst, ap}
use Rattle.std.specs.Prelude.{slice_get, slice_index, slice_index_or}
use Rattle.res_model.specs.declared.table.PinUse.{PinUse}
use Rattle.problem.specs.declared.parts.ProblemParts.{ProblemParts}
use Rattle.problem.proofs.ChosenLemmas as chosen
use Rattle.problem.proofs.parts.Problem.use_of.Goals as goal

pub bounds-at-parts : goal.bounds-at-parts
bounds-at-parts c =
    subst (λ (p : ProblemParts). p.first + c.args.signal < length c.args.at.now) (sym c.parts-parts.ensures)
    (chosen.signal_placed c.args.self.now c.parts_agree.ensures c.args.at.now c.requires.choice c.args.signal c.requires.signal)

pub use_at-requires-clause-position : goal.use_at-requires-clause-position
use_at-requires-clause-position c =
    let k = c.args.signal in
    let uses : c.as_slice.result.now ≡ c.args.self.now.uses = c.as_slice.ensures ∙ ap (λ (p : ProblemParts). p.uses) c.parts-parts.ensures in
    subst (λ (uss : List (List PinUse)). slice_index c.args.at.now (c.parts-parts.result.now.first + k) < length (slice_index_or uss k [])) (sym uses)
    (subst (λ (p : ProblemParts). slice_index c.args.at.now (p.first + k) < length (slice_index_or c.args.self.now.uses k [])) (sym c.parts-parts.ensures)
    (chosen.use_inside c.args.self.now c.parts_agree.ensures c.args.at.now c.requires.choice k c.requires.signal))

pub returns : goal.returns
returns c =
    let k = c.args.signal in
    let uses : c.as_slice.result.now ≡ c.args.self.now.uses = c.as_slice.ensures ∙ ap (λ (p : ProblemParts). p.uses) c.parts-parts.ensures in
    subst (λ (p : ProblemParts). slice_get (slice_index_or c.args.self.now.uses k []) (slice_index c.args.at.now (p.first + k)) ≡ Some c.use_at.result) c.parts-parts.ensures
    (subst (λ (uss : List (List PinUse)). slice_get (slice_index_or uss k []) (slice_index c.args.at.now (c.parts-parts.result.now.first + k)) ≡ Some c.use_at.result) uses c.use_at.ensures)
