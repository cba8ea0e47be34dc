-- What the codes of a setting keep, and what a table says of them.
use Rattle.std.proofs.Common.{◌≡◌, ℕ, ◌+◌, ◌*◌, ◌/◌, ◌%◌, ◌^◌, ◌<◌, ◌≤◌, List, length, get_or, Bool, true, false, ◌&&◌, ◌||◌, cond, eqb, Option, Some}
use Rattle.std.specs.Prelude.{IsSome, unwrap_or}
use Rattle.reg_map.specs.Fields.{bit_of}
use Rattle.res_base.specs.Fraction.{Fraction, whole, times, over}
use Rattle.res_model.specs.Clock.{output}
use Rattle.res_model.specs.Limits.{AreWithin}
use Rattle.res_model.specs.Power.{flash_rows, speeds_at, scale_limit}
use Rattle.res_model.specs.ClockValues.{has_over, hsi, scale_of_step, source_of}
use Rattle.res_model.specs.declared.clock.Facts.{Facts}
use Rattle.res_model.specs.declared.table.TableParts.{TableParts}
use Rattle.reg_machine.specs.Words.{pll_source}
use Rattle.reg_machine.specs.Tree.{m_of, n_of, p_of, q_of, hpre_of, ppre1_of, ppre2_of, hpre_value, ppre_value}
use Rattle.reg_machine.specs.Legal.{NodesFit}
use Rattle.reg_machine.specs.Power.{power_of, scale_of, step_from}
use Rattle.reg_machine.specs.declared.op.Answer.{Answer}
use Rattle.reg_machine.specs.Pins.{HaveModes}
use Rattle.reg_machine.specs.declared.state.State.{State}
use Rattle.reg_machine.specs.declared.state.Target.{Target}
use Rattle.init_gen.specs.declared.setting.Codes.{Codes}
use Rattle.init_gen.specs.declared.setting.Oscillator.{Oscillator}
use Rattle.init_gen.specs.declared.setting.Oscillator.TheVariants as oscillator

-- ---- the clocks that RCC_PLLCFGR says

abbrev pub osc_of : Facts → ℕ → Fraction
osc_of f source = output f.hse_hz (whole hsi) (source_of source)

abbrev pub vco_in_at : Facts → ℕ → Fraction
vco_in_at f v = over (osc_of f (pll_source v)) (m_of v)

abbrev pub vco_at : Facts → ℕ → Fraction
vco_at f v = times (vco_in_at f v) (n_of v)

abbrev pub sys_at : Facts → ℕ → ℕ → Fraction
sys_at f v source = output f.hse_hz (over (vco_at f v) (p_of v)) (source_of source)

abbrev pub rows_of : TableParts → Target → List ℕ
rows_of t want = flash_rows t want.facts.vdd

-- ---- codes

abbrev pub has_hse : Oscillator → Bool
has_hse oscillator.Off = false
has_hse oscillator.Crystal = true
has_hse oscillator.Bypass = true

-- whether a source is on
abbrev pub is_on : Codes → ℕ → Bool
is_on c source = cond (eqb source 0) true (cond (eqb source 1) (has_hse c.oscillator) (eqb source 2 && c.pll))

-- a row that is there, and not below the first
pub record Rises (rows : List ℕ) (lat : ℕ) : Type 0 where
  pub there : lat < length rows
  pub above : get_or rows 0 0 ≤ get_or rows lat 0

-- codes that meet the limits, where SYSCLK is this
pub record CodesFit (t : TableParts) (want : Target) (sys : Fraction) (c : Codes) : Type 0 where
  pub m_least : 2 ≤ c.m
  pub n_least : 50 ≤ c.n
  pub n_most : c.n ≤ 432
  pub q_least : 2 ≤ c.q
  pub psrc_on : c.pll ≡ true → is_on c c.psrc ≡ true
  pub src_on : is_on c c.src ≡ true
  pub vco_in : c.pll ≡ true → AreWithin t.limits.vco_in (over (osc_of want.facts c.psrc) c.m)
  pub vco : c.pll ≡ true → AreWithin t.limits.vco (times (over (osc_of want.facts c.psrc) c.m) c.n)
  pub sys_on : c.pll ≡ true → output want.facts.hse_hz (over (times (over (osc_of want.facts c.psrc) c.m) c.n) (2 * (c.pcode + 1))) (source_of c.src) ≡ sys
  pub sys_off : c.pll ≡ false → (pll : Fraction) → output want.facts.hse_hz pll (source_of c.src) ≡ sys
  pub nodes : NodesFit (speeds_at t c.step) (scale_limit t c.step) (rows_of t want) c.wait sys (hpre_value c.hcode) (ppre_value c.code1) (ppre_value c.code2)
  -- the power step: its scale, and over-drive, which runs beside the PLL alone
  pub over_is : c.over ≡ has_over c.step
  pub scale_is : c.scale ≡ scale_of_step c.step
  pub over_pll : c.over ≡ true → c.pll ≡ true

-- a table takes HSI as it is at reset, at a power step
abbrev pub HsiFits : TableParts → Target → ℕ → Type 0
HsiFits t want step = NodesFit (speeds_at t step) (scale_limit t step) (rows_of t want) 0 (whole hsi) 1 1 1

-- the table takes the reset state, at the scale of the power step and at the step too, and its rows rise
pub record TakesReset (t : TableParts) (want : Target) (c : Codes) : Type 0 where
  pub first : HsiFits t want 1
  pub scale : HsiFits t want c.scale
  pub step : HsiFits t want c.step
  pub rises : Rises (rows_of t want) c.wait

-- ---- the power step that PWR_CR and ODSWRDY say, by the version of the table

abbrev pub step_now : ℕ → ℕ → Bool → Option ℕ
step_now version word switched = step_from switched (scale_of version word)

-- there is one, and the table takes HSI at it
pub record TakesNow (t : TableParts) (want : Target) (version word : ℕ) (switched : Bool) : Type 0 where
  pub some : IsSome (step_now version word switched)
  pub hsi : HsiFits t want (unwrap_or (step_now version word switched) 0)

-- the flags of over-drive stay as they are, whatever is answered
pub record OverStays (word : ℕ) (ready switched : Bool) : Type 0 where
  pub ready_stays : (a : Answer) (on : Bool) → (ready || (a.over && (eqb (word / 2 ^ 16 % 2) 1 && on))) ≡ ready
  pub switch_stays : (a : Answer) (on : Bool) → (switched || (a.over_switch && (eqb (word / 2 ^ 17 % 2) 1 && on))) ≡ switched

-- the facts of the target: what codes that use the HSE say of them
abbrev pub Suits : Oscillator → Bool → Bool → Type 0
Suits oscillator.Off osc_in bypass = Unit {0}
Suits oscillator.Crystal osc_in bypass = (osc_in ≡ true) × (bypass ≡ false)
Suits oscillator.Bypass osc_in bypass = (osc_in ≡ true) × (bypass ≡ true)

-- the PLL's fields
pub record PllIs (c : Codes) (v : ℕ) : Type 0 where
  pub psrc : pll_source v ≡ c.psrc
  pub m : m_of v ≡ c.m
  pub n : n_of v ≡ c.n
  pub p : p_of v ≡ 2 * (c.pcode + 1)
  pub q : q_of v ≡ c.q

-- at the end the fields are those of the codes
pub record FieldsAre (want : Target) (sys : Fraction) (c : Codes) (s : State) : Type 0 where
  pub source : s.source ≡ c.src
  pub sysclk : sys_at want.facts s.pllcfgr c.src ≡ sys
  pub pll_on : bit_of 24 s.cr ≡ c.pll
  pub pll : c.pll ≡ true → PllIs c s.pllcfgr
  pub hpre : hpre_of s.cfgr ≡ hpre_value c.hcode
  pub ppre1 : ppre1_of s.cfgr ≡ ppre_value c.code1
  pub ppre2 : ppre2_of s.cfgr ≡ ppre_value c.code2
  pub power : power_of s ≡ Some c.step
  pub modes : HaveModes want.pins s.gpio
