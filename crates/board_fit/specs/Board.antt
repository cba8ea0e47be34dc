-- What is due for a board: the text of its least choice, or of the refutation of all choices, where the pins alone are narrow.
use Rattle.std.specs.Prelude.{◌≡◌, ℕ, ◌+◌, ◌++◌, List, [], None, codes, decimal}
use Rattle.choice_rank.specs.Choices.{IsNarrow, IsFirstWide}
use Rattle.choice_rank.specs.Least.{IsLeast, NoneLegal}
use Rattle.answers.specs.Said.{Says, answered}
use Rattle.answers.specs.declared.answer.Answer.{Answer}
use Rattle.answers.specs.declared.answer.Status.{Status}
use Rattle.answers.specs.declared.answer.Status.TheVariants.{Done, NoChoice, TooWide}
use Rattle.box_rules.specs.Judged.{whole_meaning}
use Rattle.choice_setup.specs.SetUp.{setting_of}
use Rattle.init_gen.specs.Writes.{writes_of}
use Rattle.problem.specs.Meets.{meets}
use Rattle.problem.specs.declared.parts.ProblemParts.{ProblemParts}
use Rattle.solver.specs.Owed.{AreReadBack, AreSound}
use Rattle.solver.specs.Refutation.{IsRefutation}
use Rattle.board_fit.specs.Texts.{board_text}

-- what a whole problem comes to, whose ranks may be any natural numbers: its least choice, or the refutation of all
pub data OfFit (w : ProblemParts) (a : Answer) : Type 0 where
  solved : (c : List ℕ) → IsLeast w.shape (meets w) c → AreSound w c → AreReadBack (writes_of (setting_of w c)) → a ≡ answered Done (board_text w c) → OfFit w a
  refuted : (text : List ℕ) → NoneLegal w.shape (meets w) → IsRefutation (whole_meaning w) None [] text → a ≡ answered NoChoice text → OfFit w a

-- the status and the text, for the problem of the pins alone and the whole one: that ranks of the pins alone would not fit, by
-- the first variable with which they do not, which has the ten of the clocks before it; or what the whole problem comes to
pub data OfBoard (q w : ProblemParts) (a : Answer) : Type 0 where
  wide : (v : ℕ) → ¬ IsNarrow q.shape → IsFirstWide q.shape v → Says a TooWide (codes "too wide: variable " ++ decimal (v + 10)) → OfBoard q w a
  narrow : IsNarrow q.shape → OfFit w a → OfBoard q w a

-- the statuses that it may have
pub data IsBoardStatus (status : Status) : Type 0 where
  of_choice : status ≡ Done → IsBoardStatus status
  of_none : status ≡ NoChoice → IsBoardStatus status
  of_width : status ≡ TooWide → IsBoardStatus status
