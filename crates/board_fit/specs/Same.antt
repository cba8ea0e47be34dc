-- What a board says beside what is said of the whole problem where its ranks fit.
use Rattle.std.specs.Prelude.{◌≡◌, ℕ, List, ◌++◌}
use Rattle.answers.specs.Said.{answered}
use Rattle.answers.specs.declared.answer.Answer.{Answer}
use Rattle.answers.specs.declared.answer.Status.TheVariants.{Done, NoChoice}
use Rattle.choice_rank.specs.Choices.{choices_of, cost_of, rank_of}
use Rattle.problem.specs.declared.parts.ProblemParts.{ProblemParts}
use Rattle.report.specs.PinText.{rank_line}
use Rattle.board_fit.specs.Texts.{cost_line}

-- one status and one text, but for the first line where a choice fits: its cost in place of its rank
pub data SayTheSame (w : ProblemParts) (board resolved : Answer) : Type 0 where
  of_choice : (c rest : List ℕ) → board ≡ answered Done (cost_line (cost_of w.shape c) ++ rest) → resolved ≡ answered Done (rank_line (rank_of w.shape c) (cost_of w.shape c) (choices_of w.shape) ++ rest) → SayTheSame w board resolved
  of_none : (text : List ℕ) → board ≡ answered NoChoice text → resolved ≡ answered NoChoice text → SayTheSame w board resolved
