-- What refutes a box, and the verdict on it.
use Rattle.std.specs.Prelude.{◌≡◌, ◌<◌, ◌≤◌, ℕ, List, Bool, true, false, drop, take, Option, Some, None}
use Rattle.std.specs.List.{list_all}
use Rattle.res_base.specs.declared.var_set.VarSet.{VarSet}
use Rattle.res_base.specs.Lists.{Each}
use Rattle.box_split.specs.Boxes.{Run, highs, is_single, lows}
use Rattle.problem.specs.declared.parts.ProblemParts.{ProblemParts}
use Rattle.choice_rank.specs.Choices.{IsShape}
use Rattle.problem.specs.Meets.{meets}
use Rattle.problem.specs.Problem.{HaveValues, IsClock, are_alike}
use Rattle.res_model.specs.Clock.{AreFacts}
use Rattle.clock_limits.specs.Ranges.{limit_refutes, refuting_limit}
use Rattle.res_model.specs.declared.clock.ClockBox.{ClockBox}
use Rattle.res_model.specs.declared.table.PinUse.{PinUse}
use Rattle.res_model.specs.declared.table.TableParts.{TableParts}
use Rattle.res_model.specs.Placement.{number_of}
use Rattle.search_api.specs.declared.verdict.Class.{Class}
use Rattle.search_api.specs.declared.verdict.Class.TheVariants.{Pins, Exti}
use Rattle.search_api.specs.declared.verdict.Reason.{Reason}
use Rattle.search_api.specs.declared.verdict.Reason.TheVariants.{Hall, Limit}
use Rattle.search_api.specs.declared.verdict.Verdict.{Verdict}
use Rattle.search_api.specs.declared.verdict.Verdict.TheVariants.{Bad, Legal, Open}
use Rattle.search_api.specs.Meaning.{Meaning}
use Rattle.box_rules.specs.Contest.{Contestant, contestants, hall_in, hall_refutes}

-- the signals of a class in a box
abbrev pub contest : ProblemParts → Class → List Run → List Contestant
contest p class box = contestants class p.first p.uses (drop p.first box)

-- in the problem of pins a limit refutes no box
abbrev pub refutes_pins : ProblemParts → Reason → List Run → Bool
refutes_pins p (Hall class vars) box = hall_refutes p.tables class (contest p class box) vars
refutes_pins p (Limit k) box = false

-- pins are asked first, and then the lines of interrupts
abbrev pub verdict_from : Option VarSet → Option VarSet → Bool → Verdict
verdict_from (Some vars) lines single = Bad (Hall Pins vars)
verdict_from None (Some vars) single = Bad (Hall Exti vars)
verdict_from None None true = Legal
verdict_from None None false = Open

abbrev pub pin_verdict : ProblemParts → List Run → Verdict
pin_verdict p box = verdict_from (hall_in p.tables Pins (contest p Pins box)) (hall_in p.tables Exti (contest p Exti box)) (is_single box)

abbrev pub pin_meaning : ProblemParts → Meaning
pin_meaning p = record { shape = p.shape; legal = meets p; refutes = refutes_pins p; verdict = pin_verdict p }

-- each resource of a use is a number below 192
abbrev pub HasResources : TableParts → PinUse → Type 0
HasResources t u = (u.pin < 192) × (number_of t u.pin < 192)

-- the runs of the clock variables, which stand before those of the signals
abbrev pub clock_box : List Run → ClockBox
clock_box box = record { lo = take 10 (lows box); hi = take 10 (highs box) }

-- in a whole problem a limit refutes a box whose clock values leave no room for it
abbrev pub refutes_whole : ProblemParts → Reason → List Run → Bool
refutes_whole p (Hall class vars) box = hall_refutes p.tables class (contest p class box) vars
refutes_whole p (Limit k) box = limit_refutes p.tables p.facts p.clock (clock_box box) k

-- pins are asked first, then the lines of interrupts, and then the limits
abbrev pub whole_verdict_from : Option VarSet → Option VarSet → Option ℕ → Bool → Verdict
whole_verdict_from (Some vars) lines limit single = Bad (Hall Pins vars)
whole_verdict_from None (Some vars) limit single = Bad (Hall Exti vars)
whole_verdict_from None None (Some k) single = Bad (Limit k)
whole_verdict_from None None None true = Legal
whole_verdict_from None None None false = Open

abbrev pub whole_verdict : ProblemParts → List Run → Verdict
whole_verdict p box = whole_verdict_from (hall_in p.tables Pins (contest p Pins box)) (hall_in p.tables Exti (contest p Exti box)) (refuting_limit p.tables p.facts p.clock (clock_box box)) (is_single box)

abbrev pub whole_meaning : ProblemParts → Meaning
whole_meaning p = record { shape = p.shape; legal = meets p; refutes = refutes_whole p; verdict = whole_verdict p }

-- what a judge keeps of its problem
pub record IsReady (p : ProblemParts) : Type 0 where
  pub shape : IsShape p.shape
  pub first : p.first ≤ 10
  pub sizes : HaveValues (drop p.first p.shape) p.uses
  pub resources : Each (Each (HasResources p.tables)) p.uses
  pub alike : list_all are_alike p.uses ≡ true

-- what a judge keeps of a whole problem
pub record IsWhole (p : ProblemParts) : Type 0 where
  pub ready : IsReady p
  pub first : p.first ≡ 10
  pub clock : IsClock p.clock
  pub clock_sizes : HaveValues (take p.first p.shape) p.clock
  pub facts : AreFacts p.facts
