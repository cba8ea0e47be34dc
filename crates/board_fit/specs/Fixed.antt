-- A project whose signals all stay where a placement has them.
use Rattle.std.specs.Prelude.{ℕ, List, [], ◌∷◌, Some, true, false}
use Rattle.res_model.specs.declared.project.Project.{Project}
use Rattle.res_model.specs.declared.project.Signal.{Signal}
use Rattle.res_model.specs.declared.table.PinUse.{PinUse}

-- the signal is at home at a pin, is locked there, and is no need
abbrev pub settled : Signal → ℕ → Signal
settled s pin = record { name = s.name; home = Some pin; locked = true; need = false; pull = s.pull; speed = s.speed }

-- each signal at the pin of the use beside it
abbrev pub all_settled : List Signal → List PinUse → List Signal
all_settled [] us = []
all_settled (s ∷ ss) [] = s ∷ ss
all_settled (s ∷ ss) (u ∷ us) = settled s u.pin ∷ all_settled ss us

unfoldable pub fixed : Project → List PinUse → Project
fixed p us = record { signals = all_settled p.signals us; clock = p.clock; hse_hz = p.hse_hz; marks = p.marks }
