-- Which states keep the limits of a table and the functions of the pins.
use Rattle.std.specs.Prelude.{◌≡◌, ℕ, ◌%◌, ◌<◌, ◌&&◌, nat_lt, List, length, slice_index, Bool, true, Option, Some, None, IsSome, is_some}
use Rattle.reg_map.specs.Fields.{bit_of}
use Rattle.res_base.specs.Fraction.{Fraction, IsAtMost, at_most, whole, over}
use Rattle.res_model.specs.Clock.{sysclk_of, vco_in_of, vco_of, where_used}
use Rattle.res_model.specs.Limits.{AreWithin, are_within, IsWithinMax}
use Rattle.res_model.specs.Power.{flash_rows, speeds_at, scale_limit, is_within_max}
use Rattle.res_model.specs.declared.clock.ClockChoice.{ClockChoice}
use Rattle.res_model.specs.declared.clock.Facts.{Facts}
use Rattle.res_model.specs.declared.table.Over.{Over}
use Rattle.res_model.specs.declared.table.TableParts.{TableParts}
use Rattle.reg_machine.specs.Power.{power_of}
use Rattle.reg_machine.specs.Tree.{choice_of}
use Rattle.reg_machine.specs.Pins.{ArePinsLegal, are_legal_below}
use Rattle.reg_machine.specs.declared.state.State.{State}
use Rattle.reg_machine.specs.declared.state.Target.{Target}

-- SYSCLK and what the dividers make of it, under the limits of a power step, with that of HCLK if there is one, and under
-- the row of the wait states in effect, if there is one
pub record NodesFit (speeds : Over) (scale : Option ℕ) (rows : List ℕ) (wait : ℕ) (sysclk : Fraction) (hpre ppre1 ppre2 : ℕ) : Type 0 where
  pub sysclk_within : IsAtMost sysclk (whole speeds.sysclk)
  pub scale_covers : IsWithinMax (over sysclk hpre) scale
  pub row_is_there : wait < length rows
  pub row_covers : IsAtMost (over sysclk hpre) (whole (slice_index rows wait))
  pub pclk1_within : IsAtMost (over (over sysclk hpre) ppre1) (whole speeds.pclk1)
  pub pclk2_within : IsAtMost (over (over sysclk hpre) ppre2) (whole speeds.pclk2)

abbrev pub IsChoiceLegal : TableParts → Facts → ℕ → ClockChoice → Type 0
IsChoiceLegal t f wait c = NodesFit (speeds_at t c.vos) (scale_limit t c.vos) (flash_rows t f.vdd) wait (sysclk_of f c) c.hpre c.ppre1 c.ppre2

-- the same as a test
abbrev pub nodes_fit : Over → Option ℕ → List ℕ → ℕ → Fraction → ℕ → ℕ → ℕ → Bool
nodes_fit speeds scale rows wait sysclk hpre ppre1 ppre2 =
    at_most sysclk (whole speeds.sysclk)
    && (is_within_max (over sysclk hpre) scale
    && ((nat_lt wait (length rows) && at_most (over sysclk hpre) (whole (slice_index rows wait)))
    && (at_most (over (over sysclk hpre) ppre1) (whole speeds.pclk1)
    && at_most (over (over sysclk hpre) ppre2) (whole speeds.pclk2))))

abbrev pub is_choice_legal : TableParts → Facts → ℕ → ClockChoice → Bool
is_choice_legal t f wait c = nodes_fit (speeds_at t c.vos) (scale_limit t c.vos) (flash_rows t f.vdd) wait (sysclk_of f c) c.hpre c.ppre1 c.ppre2

-- there is a power step in effect; and at it, for the source in effect and for the one that SW asks for, under the latency
-- in effect; with the VCO in range where PLLON is set
pub record IsLegal (t : TableParts) (want : Target) (s : State) : Type 0 where
  pub power : IsSome (power_of s)
  pub in_effect : IsChoiceLegal t want.facts s.latency (choice_of s s.source)
  pub asked : IsChoiceLegal t want.facts s.latency (choice_of s (s.cfgr % 4))
  pub vco_in : bit_of 24 s.cr ≡ true → AreWithin t.limits.vco_in (vco_in_of want.facts (choice_of s s.source))
  pub vco : bit_of 24 s.cr ≡ true → AreWithin t.limits.vco (vco_of want.facts (choice_of s s.source))
  pub pins : ArePinsLegal want.pins s.gpio

-- the same as a test
abbrev pub are_within_some : ℕ × ℕ → Option Fraction → Bool
are_within_some bounds None = true
are_within_some bounds (Some x) = are_within bounds x

abbrev pub is_vco_legal : TableParts → Facts → Bool → ClockChoice → Bool
is_vco_legal t f on c = are_within_some t.limits.vco_in (where_used on (vco_in_of f c)) && are_within_some t.limits.vco (where_used on (vco_of f c))

abbrev pub is_legal : TableParts → Target → State → Bool
is_legal t want s =
    is_some (power_of s)
    && (is_choice_legal t want.facts s.latency (choice_of s s.source)
    && (is_choice_legal t want.facts s.latency (choice_of s (s.cfgr % 4))
    && (is_vco_legal t want.facts (bit_of 24 s.cr) (choice_of s s.source)
    && are_legal_below 144 want.pins s.gpio)))
