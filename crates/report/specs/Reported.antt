-- The report of a choice: its rank, where the signals are, the clocks, and the accesses that set them up.
use Rattle.std.specs.Prelude.{ℕ, List, ◌++◌}
use Rattle.problem.specs.declared.parts.ProblemParts.{ProblemParts}
use Rattle.problem.specs.ClockValues.{clock_at}
use Rattle.res_model.specs.Clock.{hclk_of}
use Rattle.clock_tree.specs.ClockText.{clock_text}
use Rattle.res_model.specs.Power.{wait_of}
use Rattle.res_model.specs.declared.clock.ClockChoice.{ClockChoice}
use Rattle.reg_machine.specs.declared.op.Op.{Op}
use Rattle.c_print.specs.Text.{c_text_of}
use Rattle.report.specs.Placed.{placement_text}

-- the clocks, with the least wait states under which the flash keeps up with HCLK
abbrev pub tree_text : ProblemParts → ClockChoice → List ℕ
tree_text p c = clock_text p.facts c (wait_of p.tables p.facts.vdd (hclk_of p.facts c))

unfoldable pub report_text : ProblemParts → List ℕ → List Op → List ℕ
report_text p at ops = placement_text p at ++ tree_text p (clock_at p.clock at) ++ c_text_of ops
