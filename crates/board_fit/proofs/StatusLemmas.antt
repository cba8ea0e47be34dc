-- The status of a board.
use Rattle.std.proofs.Common.{ap, subst, sym}
use Rattle.answers.specs.declared.answer.Answer.{Answer}
use Rattle.answers.specs.declared.answer.Status.{Status}
use Rattle.answers.specs.declared.answer.Status.TheVariants.{Done, NoChoice, TooWide}
use Rattle.problem.specs.declared.parts.ProblemParts.{ProblemParts}
use Rattle.board_fit.specs.Board.{OfBoard, OfFit, narrow, refuted, solved, wide}

-- what holds of the three statuses holds of a board's
module _ (P : Status → Type 0) (done : P Done) (no_choice : P NoChoice) (too_wide : P TooWide) where
  of_fit : (w : ProblemParts) (a : Answer) → OfFit w a → P a.status
  of_fit w a (solved c least sound read e) = subst P (sym (ap (λ (x : Answer). x.status) e)) done
  of_fit w a (refuted text none tree e) = subst P (sym (ap (λ (x : Answer). x.status) e)) no_choice

  pub of_board : (q w : ProblemParts) (a : Answer) → OfBoard q w a → P a.status
  of_board q w a (wide v not_narrow first says) = subst P (sym (ap (λ (x : Answer). x.status) says)) too_wide
  of_board q w a (narrow is_narrow fit) = of_fit w a fit
