-- Internal: when room fits a judge, and what its contests show.
use Rattle.std.specs.Prelude.{List, Option, Some, None}
use Rattle.res_base.specs.declared.var_set.VarSet.{VarSet}
use Rattle.box_split.specs.Boxes.{Run}
use Rattle.problem.specs.declared.parts.ProblemParts.{ProblemParts}
use Rattle.search_api.specs.declared.verdict.Class.TheVariants.{Pins, Exti}
use Rattle.search_api.specs.declared.verdict.Reason.{Reason}
use Rattle.search_api.specs.declared.verdict.Reason.TheVariants.{Hall}
use Rattle.box_rules.specs.Contest.{hall_in}
use Rattle.box_rules.specs.Judged.{contest}
use Rattle.box_judge.specs.declared.halls.PinRoom.{PinRoom}
use Rattle.box_judge.specs.Room.{IsContest}

-- one contest is for the pins, and the other for the lines of interrupts
pub record FitsPins (p : ProblemParts) (room : PinRoom) : Type 0 where
  pub pins : IsContest Pins p.uses room.pins
  pub lines : IsContest Exti p.uses room.lines

-- pins are asked first, and then the lines of interrupts
abbrev pub reason_from : Option VarSet → Option VarSet → Option Reason
reason_from (Some vars) lines = Some (Hall Pins vars)
reason_from None (Some vars) = Some (Hall Exti vars)
reason_from None None = None

abbrev pub hall_reason : ProblemParts → List Run → Option Reason
hall_reason p box = reason_from (hall_in p.tables Pins (contest p Pins box)) (hall_in p.tables Exti (contest p Exti box))
