-- Lines that tell of no fault.
use Rattle.std.specs.Prelude.{◌≡◌, true}
use Rattle.reg_trace.specs.Lines.{OpWent, RunDone, RunForbidden, RunTimedOut, Said, TraceLine}

-- nothing was forbidden
abbrev pub IsAllowed : Said → Type 0
IsAllowed (OpWent number address word source latency) = Unit {0}
IsAllowed RunDone = Unit {0}
IsAllowed (RunTimedOut name) = Unit {0}
IsAllowed (RunForbidden rule) = ⊥

-- it says neither `illegal` nor `forbidden`
pub record IsClean (l : TraceLine) : Type 0 where
  pub legal : l.legal ≡ true
  pub allowed : IsAllowed l.said
