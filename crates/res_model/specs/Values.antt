-- The values that a signal can have, and what they cost.
use Rattle.std.specs.Prelude.{◌==◌, ◌++◌, ℕ, List, [], ◌∷◌, Bool, not, Option, Some, None, filter, length, map, if◌then◌else◌}
use Rattle.std.specs.List.{list_any}
use Rattle.choice_rank.specs.declared.variable.Costs.{Costs}
use Rattle.choice_rank.specs.declared.variable.Costs.TheVariants.{HomeFirst, AllZero, AllOne}
use Rattle.choice_rank.specs.declared.variable.VarShape.{VarShape}
use Rattle.res_model.specs.declared.project.Signal.{Signal}
use Rattle.res_model.specs.declared.table.Mode.{Mode}
use Rattle.res_model.specs.declared.table.PinUse.{PinUse}
use Rattle.res_model.specs.declared.table.TableParts.{TableParts}
use Rattle.res_model.specs.Signals.{signal_named, rows_of, own_mode}

abbrev pub is_at : ℕ → PinUse → Bool
is_at pin u = u.pin == pin

-- the rows at a pin, and the others
abbrev pub rows_at : ℕ → List PinUse → List PinUse
rows_at pin rows = filter (is_at pin) rows

abbrev pub rows_elsewhere : ℕ → List PinUse → List PinUse
rows_elsewhere pin rows = filter (λ u. not (is_at pin u)) rows

-- a signal without rows stays at its pin
abbrev pub use_at : ℕ → Option Mode → List PinUse
use_at pin None = []
use_at pin (Some mode) = record { pin = pin; mode = mode } ∷ []

-- a need has all its rows; another signal its home first, where it has a row there, and then,
-- unless it must stay, its other rows in table order
abbrev pub placed : List PinUse → Option Mode → Bool → ℕ → List PinUse
placed [] own locked home = use_at home own
placed (row ∷ rows) own locked home =
    rows_at home (row ∷ rows) ++ (if locked then [] else rows_elsewhere home (row ∷ rows))

abbrev pub values_from : List PinUse → Option Mode → Bool → Option ℕ → List PinUse
values_from rows own locked None = rows
values_from rows own locked (Some home) = placed rows own locked home

unfoldable pub values_of : TableParts → Signal → List PinUse
values_of t s = values_from (rows_of (signal_named t s.name)) (own_mode s.name (signal_named t s.name)) s.locked s.home

-- leaving the home costs 1; a signal whose home is no value pays 1 wherever it goes; a need pays nothing
abbrev pub home_costs : List PinUse → ℕ → Costs
home_costs [] home = HomeFirst
home_costs (row ∷ rows) home = if list_any (is_at home) (row ∷ rows) then HomeFirst else AllOne

abbrev pub costs_from : List PinUse → Option ℕ → Costs
costs_from rows None = AllZero
costs_from rows (Some home) = home_costs rows home

unfoldable pub costs_of : TableParts → Signal → Costs
costs_of t s = costs_from (rows_of (signal_named t s.name)) s.home

-- a signal is a variable with a position for each of its values
abbrev pub variable_of : TableParts → Signal → VarShape
variable_of t s = record { size = length (values_of t s); costs = costs_of t s }

abbrev pub pin_variables : TableParts → List Signal → List VarShape
pin_variables t ss = map (variable_of t) ss

abbrev pub pin_values : TableParts → List Signal → List (List PinUse)
pin_values t ss = map (values_of t) ss
