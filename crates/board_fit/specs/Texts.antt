-- The text of a choice whose rank fits no number.
use Rattle.std.specs.Prelude.{ℕ, ◌+◌, List, [], ◌∷◌, ◌++◌, codes, decimal}
use Rattle.choice_rank.specs.Choices.{cost_of}
use Rattle.c_print.specs.Text.{c_text_of}
use Rattle.choice_setup.specs.SetUp.{setting_of}
use Rattle.init_gen.specs.Writes.{writes_of}
use Rattle.problem.specs.ClockValues.{clock_at}
use Rattle.problem.specs.declared.parts.ProblemParts.{ProblemParts}
use Rattle.report.specs.PinText.{pins_text}
use Rattle.report.specs.Placed.{uses_of}
use Rattle.report.specs.Reported.{tree_text}

unfoldable pub cost_line : ℕ → List ℕ
cost_line cost = codes "cost " ++ decimal cost ++ 10 ∷ []

-- what a choice of a whole problem costs, where the signals are, the clocks, and the accesses that set them up
unfoldable pub board_text : ProblemParts → List ℕ → List ℕ
board_text p c =
    cost_line (cost_of p.shape c) ++ pins_text p.tables p.signals (uses_of p c) ++ tree_text p (clock_at p.clock c)
    ++ c_text_of (writes_of (setting_of p c))

-- the same of a placement and of the clocks of the problem in which each signal stays where the placement has it
unfoldable pub parts_text : ProblemParts → List ℕ → ProblemParts → List ℕ → List ℕ
parts_text q at one k =
    cost_line (cost_of q.shape at + cost_of one.shape k) ++ pins_text q.tables q.signals (uses_of q at) ++ tree_text one (clock_at one.clock k)
    ++ c_text_of (writes_of (setting_of one k))
