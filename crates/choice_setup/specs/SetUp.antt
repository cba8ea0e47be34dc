-- The setting that a choice of a whole problem makes: its clocks, the wait states and prefetch of the flash, and what
-- each signal sets up at its pin.
use Rattle.std.specs.Prelude.{ℕ, ◌+◌, ◌*◌, ◌==◌, Bool, false, if◌then◌else◌, List, [], ◌∷◌, drop, map, Option, Some, None, slice_get, unwrap_or}
use Rattle.std.specs.Option.{option_map_or}
use Rattle.res_model.specs.Clock.{hclk_of}
use Rattle.res_model.specs.Placement.{uses_at}
use Rattle.res_model.specs.Power.{range_at, range_prefetches, wait_of}
use Rattle.res_model.specs.Signals.{signal_named}
use Rattle.res_model.specs.declared.clock.ClockChoice.{ClockChoice}
use Rattle.res_model.specs.declared.project.Signal.{Signal}
use Rattle.res_model.specs.declared.table.Pin.{Pin}
use Rattle.res_model.specs.declared.table.PinUse.{PinUse}
use Rattle.res_model.specs.declared.table.TableParts.{TableParts}
use Rattle.res_model.specs.declared.table.TableSignal.{TableSignal}
use Rattle.init_gen.specs.declared.setting.Setting.{Setting}
use Rattle.init_gen.specs.declared.setting.Setup.{Setup}
use Rattle.problem.specs.ClockValues.{clock_at, numbers_from}
use Rattle.problem.specs.Meets.{places_of}
use Rattle.problem.specs.declared.parts.ProblemParts.{ProblemParts}

-- ---- pins

-- the output of the table's signal of this name is an open drain
abbrev pub drains : TableParts → List ℕ → Bool
drains t name = option_map_or (λ (s : TableSignal). s.drain) (signal_named t name) false

-- the place of a pin: its port times 16 plus its number
abbrev pub place_of : TableParts → ℕ → ℕ
place_of t pin = option_map_or (λ (p : Pin). p.port * 16 + p.number) (slice_get t.pins pin) 0

-- what a signal sets up where it makes this use of a pin
abbrev pub setup_of : TableParts → Signal → PinUse → Setup
setup_of t s u = record { mode = u.mode; pull = s.pull; speed = s.speed; drain = drains t s.name }

-- what is set up at a place: what the first signal does whose use is of the pin there
abbrev pub setup_at : TableParts → List Signal → List PinUse → ℕ → Option Setup
setup_at t [] us place = None
setup_at t (s ∷ ss) [] place = None
setup_at t (s ∷ ss) (u ∷ us) place = if place_of t u.pin == place then Some (setup_of t s u) else setup_at t ss us place

-- the places of the pins of nine ports
unfoldable pub places : List ℕ
places = numbers_from 144 0

unfoldable pub setups_of : TableParts → List Signal → List PinUse → List (Option Setup)
setups_of t ss us = map (setup_at t ss us) places

-- what the signals from this number on set up
unfoldable pub setups_from : ProblemParts → List ℕ → ℕ → List (Option Setup)
setups_from p at k = setups_of p.tables (drop k p.signals) (uses_at (drop k p.uses) (drop k (places_of p at)))

-- ---- the whole

-- the least wait states whose row covers HCLK; none where no row does
abbrev pub wait_states : ProblemParts → ClockChoice → ℕ
wait_states p c = unwrap_or (wait_of p.tables p.facts.vdd (hclk_of p.facts c)) 0

unfoldable pub setting_of : ProblemParts → List ℕ → Setting
setting_of p at = record {
  version = p.tables.version;
  facts = p.facts;
  clock = clock_at p.clock at;
  wait = wait_states p (clock_at p.clock at);
  prefetch = range_prefetches (range_at p.tables p.facts.vdd);
  pins = setups_of p.tables p.signals (uses_at p.uses (places_of p at));
}
