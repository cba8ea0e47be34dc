-- The text of a placement of a problem's signals.
use Rattle.std.specs.Prelude.{ℕ, List, ◌++◌}
use Rattle.choice_rank.specs.Choices.{choices_of, cost_of, rank_of}
use Rattle.problem.specs.declared.parts.ProblemParts.{ProblemParts}
use Rattle.problem.specs.Meets.{places_of}
use Rattle.res_model.specs.declared.table.PinUse.{PinUse}
use Rattle.report.specs.PinText.{pins_text, rank_line}
use Rattle.res_model.specs.Placement.{uses_at}

-- the uses of a choice, one for each signal
abbrev pub uses_of : ProblemParts → List ℕ → List PinUse
uses_of p at = uses_at p.uses (places_of p at)

-- the rank of a choice, and a line for each signal
unfoldable pub placement_text : ProblemParts → List ℕ → List ℕ
placement_text p at = rank_line (rank_of p.shape at) (cost_of p.shape at) (choices_of p.shape) ++ pins_text p.tables p.signals (uses_of p at)
