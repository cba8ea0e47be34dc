-- What a signal's name stands for in a table.
use Rattle.std.specs.Prelude.{◌≡◌, ◌⊎◌, ℕ, List, [], ◌∷◌, Option, Some, None, find, codes, Contains, if◌then◌else◌, option_and_then}
use Rattle.std.specs.Option.{option_map_or}
use Rattle.std.specs.Str.{bytes_eq}
use Rattle.res_model.specs.declared.table.Role.{Role}
use Rattle.res_model.specs.declared.table.Role.TheVariants as role
use Rattle.res_model.specs.declared.table.Mode.{Mode}
use Rattle.res_model.specs.declared.table.Mode.TheVariants as mode
use Rattle.res_model.specs.declared.table.PinUse.{PinUse}
use Rattle.res_model.specs.declared.table.TableSignal.{TableSignal}
use Rattle.res_model.specs.declared.table.TableParts.{TableParts}

-- the signal of a name
unfoldable pub signal_named : TableParts → List ℕ → Option TableSignal
signal_named t name = find (λ s. bytes_eq s.name name) t.signals

-- the rows of a signal; a signal that is not there has none
abbrev pub rows_of : Option TableSignal → List PinUse
rows_of s = option_map_or (λ (found : TableSignal). found.at) s []

-- the mode of a signal without rows at whatever pin it stands
abbrev pub role_mode : Role → Option Mode
role_mode role.Alt = None
role_mode role.Input = Some mode.Input
role_mode role.Output = Some mode.Output
role_mode role.Analog = Some mode.Analog
role_mode role.Exti = Some mode.Exti
role_mode role.Osc = Some mode.Osc

-- `-` is the name of a pin that is only held; another name that the table lacks has no mode
abbrev pub own_mode : List ℕ → Option TableSignal → Option Mode
own_mode name (Some s) = role_mode s.role
own_mode name None = if bytes_eq name (codes "-") then Some mode.Held else None

-- the signal can make this use of a pin: the table has that row, or the signal has no rows and the mode is its own
abbrev pub CanUse : List PinUse → Option Mode → PinUse → Type 0
CanUse [] own u = own ≡ Some u.mode
CanUse (row ∷ rows) own u = Contains (row ∷ rows) u

abbrev pub Can : TableParts → List ℕ → PinUse → Type 0
Can t name u = CanUse (rows_of (signal_named t name)) (own_mode name (signal_named t name)) u
