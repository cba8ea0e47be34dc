-- The problem of the clocks beside a placement, for a problem that is that of the pins.
use Rattle.std.proofs.Common.{◌≡◌, ◌∙◌, List, ℕ, ap, subst, sym}
use Rattle.choice_rank.specs.Choices.{IsChoice, IsNarrow}
use Rattle.problem.specs.Problem.{problem_of, shape_of}
use Rattle.problem.specs.declared.parts.Part.TheVariants.{Whole}
use Rattle.problem.specs.declared.parts.ProblemParts.{ProblemParts}
use Rattle.report.specs.Placed.{uses_of}
use Rattle.res_model.specs.declared.opts.Opts.{Opts}
use Rattle.res_model.specs.declared.project.Project.{Project}
use Rattle.res_model.specs.declared.table.TableParts.{TableParts}
use Rattle.board_fit.specs.Fixed.{fixed}
use Rattle.board_fit.specs.Parts.{IsBoard, clocks_of, pins_of}
use Rattle.board_fit.proofs.BoardLemmas as boards

module _ (t : TableParts) (p : Project) (opts : Opts) (q : ProblemParts) where
  pub signals_are : q ≡ pins_of t p opts → p.signals ≡ q.signals
  unfolding problem_of
  signals_are pins = sym (ap (λ (x : ProblemParts). x.signals) pins)

  module _ (at : List ℕ) (made : Project) where
    made_is : q ≡ pins_of t p opts → made ≡ fixed p (uses_of q at) → made ≡ fixed p (uses_of (pins_of t p opts) at)
    made_is pins is = is ∙ ap (λ (x : ProblemParts). fixed p (uses_of x at)) pins

    pub board_is : IsBoard t p opts → q ≡ pins_of t p opts → IsChoice q.shape at → made ≡ fixed p (uses_of q at) → IsBoard t made opts
    board_is board pins choice is =
        let placement : IsChoice (pins_of t p opts).shape at = subst (λ (x : ProblemParts). IsChoice x.shape at) pins choice in
        subst (λ (x : Project). IsBoard t x opts) (sym (made_is pins is)) (boards.fixed_board t p opts board at placement)

    pub problem_is : q ≡ pins_of t p opts → made ≡ fixed p (uses_of q at) → problem_of t made opts Whole ≡ clocks_of t p opts at
    problem_is pins is = ap (λ (x : Project). problem_of t x opts Whole) (made_is pins is)

    shape_is : IsNarrow (clocks_of t p opts at).shape → IsNarrow (shape_of t (fixed p (uses_of (pins_of t p opts) at)) opts Whole)
    unfolding problem_of
    shape_is n = n

    pub narrow_is : IsBoard t p opts → q ≡ pins_of t p opts → IsChoice q.shape at → made ≡ fixed p (uses_of q at) → IsNarrow (shape_of t made opts Whole)
    narrow_is board pins choice is =
        let placement : IsChoice (pins_of t p opts).shape at = subst (λ (x : ProblemParts). IsChoice x.shape at) pins choice in
        subst (λ (x : Project). IsNarrow (shape_of t x opts Whole)) (sym (made_is pins is)) (shape_is (boards.fixed_narrow t p opts board at placement))
