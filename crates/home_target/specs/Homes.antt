-- The uses that signals make of their homes, and what they want of the registers.
use Rattle.std.specs.Prelude.{ℕ, ◌+◌, ◌*◌, ◌==◌, if◌then◌else◌, List, [], ◌∷◌, set, replicate, Option, Some, None, option_and_then, slice_get}
use Rattle.std.specs.Option.{option_map_or}
use Rattle.res_model.specs.Clock.{facts_of}
use Rattle.res_model.specs.Values.{values_of}
use Rattle.res_model.specs.declared.opts.Opts.{Opts}
use Rattle.res_model.specs.declared.project.Project.{Project}
use Rattle.res_model.specs.declared.project.Signal.{Signal}
use Rattle.res_model.specs.declared.table.Mode.{Mode}
use Rattle.res_model.specs.declared.table.Pin.{Pin}
use Rattle.res_model.specs.declared.table.PinUse.{PinUse}
use Rattle.res_model.specs.declared.table.TableParts.{TableParts}
use Rattle.reg_machine.specs.declared.state.Target.{Target}
use Rattle.init_gen.specs.PinWrites.{mode_wanted}

-- the first of a signal's values, where it is of the home
abbrev pub at_home : ℕ → List PinUse → Option PinUse
at_home home [] = None
at_home home (u ∷ us) = if u.pin == home then Some u else None

-- the use that a signal makes of its home. The home stands first among the values where it is one; else there is no use
unfoldable pub home_use : TableParts → Signal → Option PinUse
home_use t s = option_and_then (λ home. at_home home (values_of t s)) s.home

-- the place of a pin: its port times 16 plus its number
abbrev pub place_of : TableParts → ℕ → ℕ
place_of t pin = option_map_or (λ (p : Pin). p.port * 16 + p.number) (slice_get t.pins pin) 0

-- a use has its mode at its place
abbrev pub with_use : TableParts → Option PinUse → List (Option Mode) → List (Option Mode)
with_use t None modes = modes
with_use t (Some u) modes = set modes (place_of t u.pin) (mode_wanted u.mode)

unfoldable pub no_modes : List (Option Mode)
no_modes = replicate 144 None

-- the mode of each home, at its place: that of the first signal there
abbrev pub home_modes : TableParts → List Signal → List (Option Mode)
home_modes t [] = no_modes
home_modes t (s ∷ ss) = with_use t (home_use t s) (home_modes t ss)

-- what a project wants of the registers at its homes
unfoldable pub home_target : TableParts → Project → Opts → Target
home_target t p opts = record { facts = facts_of t p opts; pins = home_modes t p.signals }
