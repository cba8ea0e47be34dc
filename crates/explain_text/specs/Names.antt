-- Names and numbers in lines.
use Rattle.std.specs.Prelude.{ℕ, ◌-◌, List, [], ◌++◌, Option, None, codes, decimal, nat_lt, if◌then◌else◌, slice_get, slice_index_or}
use Rattle.std.specs.Option.{option_map_or}
use Rattle.res_base.specs.Fraction.{Fraction, at_most, whole}
use Rattle.clock_tree.specs.ClockText.{floor}
use Rattle.problem.specs.declared.parts.ProblemParts.{ProblemParts}
use Rattle.res_model.specs.declared.clock.Range.{Range}
use Rattle.res_model.specs.declared.project.Signal.{Signal}
use Rattle.res_model.specs.declared.table.Pin.{Pin}
use Rattle.res_model.specs.declared.table.PinUse.{PinUse}
use Rattle.res_model.specs.declared.table.TableParts.{TableParts}

-- the name of the pin at a place of the table's list
unfoldable pub pin_name : TableParts → ℕ → List ℕ
pin_name t pin = option_map_or (λ (p : Pin). p.name) (slice_get t.pins pin) []

-- the signal that is the variable of a number, with its values; a clock variable is none
unfoldable pub signal_of : ProblemParts → ℕ → Option Signal
signal_of p v = if nat_lt v p.first then None else slice_get p.signals (v - p.first)

unfoldable pub values_of : ProblemParts → ℕ → List PinUse
values_of p v = if nat_lt v p.first then [] else slice_index_or p.uses (v - p.first) []

-- a number of hertz: its floor, and that it is above it where it is no whole number
unfoldable pub hertz_text : Fraction → List ℕ
hertz_text x = if at_most x (whole (floor x)) then decimal (floor x) else codes "above " ++ decimal (floor x)

-- a range; one number alone where its ends are equal
unfoldable pub range_text : Range → List ℕ
range_text r = if at_most r.most r.least then hertz_text r.least else hertz_text r.least ++ codes " to " ++ hertz_text r.most
