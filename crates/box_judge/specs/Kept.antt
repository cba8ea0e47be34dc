-- Internal: when room with what was kept fits a judge.
use Rattle.std.specs.Prelude.{◌≡◌, IfSome}
use Rattle.box_split.specs.BoxIn.{box_in}
use Rattle.problem.specs.declared.parts.ProblemParts.{ProblemParts}
use Rattle.box_judge.specs.declared.kept.Kept.{Kept}
use Rattle.box_judge.specs.declared.kept.PinClockRoom.{PinClockRoom}
use Rattle.box_judge.specs.Fits.{FitsPins, hall_reason}

-- what was kept is what the signals of its box show
abbrev pub IsKept : ProblemParts → Kept → Type 0
IsKept p k = k.refuting ≡ hall_reason p (box_in p.shape k.b)

pub record FitsWhole (p : ProblemParts) (room : PinClockRoom) : Type 0 where
  pub signals : FitsPins p room.signals
  pub kept : IfSome room.kept (IsKept p)
