-- Where a choice puts the signals, and which placements fit.
use Rattle.std.specs.Prelude.{◌≡◌, ◌≢◌, ◌==◌, ◌&&◌, ◌||◌, ◌<◌, ◌++◌, ◌⊎◌, ℕ, List, [], ◌∷◌, Bool, true, false, not, AllPairs, length, slice_get}
use Rattle.std.specs.List.{list_all}
use Rattle.std.specs.Option.{option_map_or, option_to_list}
use Rattle.res_model.specs.declared.table.Mode.{Mode}
use Rattle.res_model.specs.declared.table.Mode.TheVariants.{Exti}
use Rattle.res_model.specs.declared.table.Pin.{Pin}
use Rattle.res_model.specs.declared.table.PinUse.{PinUse}
use Rattle.res_model.specs.declared.table.TableParts.{TableParts}

-- the values at the positions, one for each signal
abbrev pub uses_at : List (List PinUse) → List ℕ → List PinUse
uses_at [] at = []
uses_at (values ∷ rest) [] = []
uses_at (values ∷ rest) (position ∷ at) = option_to_list (slice_get values position) ++ uses_at rest at

-- the number of a pin on its port
abbrev pub number_of : TableParts → ℕ → ℕ
number_of t pin = option_map_or (λ (p : Pin). p.number) (slice_get t.pins pin) 0

abbrev pub is_exti : Mode → Bool
is_exti Exti = true
is_exti mode = false

-- two uses are of one pin
abbrev pub shares_pin : PinUse → PinUse → Bool
shares_pin u w = u.pin == w.pin

-- both are interrupts, at pins of one number: the chip has one interrupt line a number (RM0090 EXTI)
abbrev pub shares_line : TableParts → PinUse → PinUse → Bool
shares_line t u w = is_exti u.mode && is_exti w.mode && (number_of t u.pin == number_of t w.pin)

abbrev pub clashes : TableParts → PinUse → PinUse → Bool
clashes t u w = shares_pin u w || shares_line t u w

-- no two clash
abbrev pub fits : TableParts → List PinUse → Bool
fits t [] = true
fits t (u ∷ us) = list_all (λ w. not (clashes t u w)) us && fits t us

-- the same as sentences: each signal has a pin of its own, and each interrupt a line of its own
pub record Fits (t : TableParts) (us : List PinUse) : Type 0 where
  pub pins : AllPairs (λ u w. u.pin ≢ w.pin) us
  pub lines : AllPairs (λ u w. u.mode ≡ Exti → w.mode ≡ Exti → number_of t u.pin ≢ number_of t w.pin) us

-- a choice of the signals meets the limits on pins
abbrev pub meets_pins : TableParts → List (List PinUse) → List ℕ → Bool
meets_pins t values at = fits t (uses_at values at)
