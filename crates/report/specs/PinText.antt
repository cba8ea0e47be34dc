-- The text of a placement.
use Rattle.std.specs.Prelude.{ℕ, ◌==◌, List, [], ◌∷◌, ◌++◌, length, Bool, true, false, if◌then◌else◌, Option, Some, None, codes, decimal, slice_get}
use Rattle.std.specs.Option.{option_map_or}
use Rattle.res_model.specs.declared.table.Mode.{Mode}
use Rattle.res_model.specs.declared.table.Mode.TheVariants.{Alt, Input, Output, Analog, Exti, Osc, Held}
use Rattle.res_model.specs.declared.table.Pin.{Pin}
use Rattle.res_model.specs.declared.table.PinUse.{PinUse}
use Rattle.res_model.specs.declared.table.TableParts.{TableParts}
use Rattle.res_model.specs.declared.project.Signal.{Signal}

abbrev pub mode_text : Mode → List ℕ
mode_text (Alt n) = codes "AF" ++ decimal n
mode_text Input = codes "INPUT"
mode_text Output = codes "OUTPUT"
mode_text Analog = codes "ANALOG"
mode_text Exti = codes "EXTI"
mode_text Osc = codes "OSC"
mode_text Held = codes "HELD"

abbrev pub is_home : ℕ → Option ℕ → Bool
is_home pin None = false
is_home pin (Some home) = home == pin

-- a need is called so; another signal is kept at its home or moved from it
abbrev pub state_text : Signal → PinUse → List ℕ
state_text s u = if s.need then codes "need" else (if is_home u.pin s.home then codes "kept" else codes "moved")

abbrev pub pin_name : TableParts → ℕ → List ℕ
pin_name t pin = option_map_or (λ (p : Pin). p.name) (slice_get t.pins pin) []

-- pin, signal, mode, state
unfoldable pub words_line : List ℕ → List ℕ → List ℕ → List ℕ → List ℕ
words_line pin signal mode state = pin ++ codes " " ++ signal ++ codes " " ++ mode ++ codes " " ++ state ++ 10 ∷ []

abbrev pub pin_line : TableParts → Signal → PinUse → List ℕ
pin_line t s u = words_line (pin_name t u.pin) s.name (mode_text u.mode) (state_text s u)

-- a line for each signal with its use
abbrev pub pin_lines : TableParts → List Signal → List PinUse → List ℕ
pin_lines t [] us = []
pin_lines t (s ∷ ss) [] = []
pin_lines t (s ∷ ss) (u ∷ us) = pin_line t s u ++ pin_lines t ss us

unfoldable pub count_line : ℕ → List ℕ
count_line n = codes "pins " ++ decimal n ++ 10 ∷ []

abbrev pub pins_text : TableParts → List Signal → List PinUse → List ℕ
pins_text t ss us = count_line (length ss) ++ pin_lines t ss us

unfoldable pub rank_line : ℕ → ℕ → ℕ → List ℕ
rank_line rank cost choices = codes "rank " ++ decimal rank ++ codes " cost " ++ decimal cost ++ codes " of " ++ decimal choices ++ 10 ∷ []
