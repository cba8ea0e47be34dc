-- The clocks of the PLLI2S and of an I2S with its master clock (RM0090, RCC and SPI/I2S), and the choices that keep their limits.
-- Clocks are fractions of hertz that are never rounded.
use Rattle.std.specs.Prelude.{ℕ, ◌+◌, ◌*◌, ◌≤◌, IsTrue}
use Rattle.res_base.specs.Fraction.{Fraction, IsAtMost, whole, times, over}
use Rattle.res_model.specs.Clock.{IsBetween, is_hse, vco_in_of}
use Rattle.res_model.specs.Limits.{AreWithin, hse_bounds}
use Rattle.res_model.specs.declared.clock.ClockChoice.{ClockChoice}
use Rattle.res_model.specs.declared.clock.Facts.{Facts}
use Rattle.res_model.specs.declared.table.Bounds.{Bounds}
use Rattle.res_model.specs.declared.table.TableParts.{TableParts}
use Rattle.i2s_pll.specs.declared.choice.I2s.{I2s}

-- ---- clocks, from the PLLI2S's input, which is that of the main PLL

-- the VCO is the input times N
abbrev pub vco_of : Fraction → ℕ → Fraction
vco_of input n = times input n

-- I2SCLK is the VCO over R
abbrev pub i2sclk_of : Fraction → ℕ → ℕ → Fraction
i2sclk_of input n r = over (vco_of input n) r

-- what the I2S divides by (I2SPR): twice DIV, and one more where ODD is 1
abbrev pub divider : I2s → ℕ
divider x = 2 * x.div + x.odd

-- with the master clock a sample takes 256 times as many periods of I2SCLK
abbrev pub sample_rate : Fraction → I2s → Fraction
sample_rate input x = over (over (i2sclk_of input x.n x.r) 256) (divider x)

-- ---- limits

-- the greatest I2SCLK, a bound of this project's own
abbrev pub i2sclk_most : ℕ
i2sclk_most = 192000000

-- the input and the VCO are within the bounds of the table, which are those of the main PLL, and I2SCLK is at most its limit
pub record KeepsBounds (limits : Bounds) (input : Fraction) (n r : ℕ) : Type 0 where
  pub vco_in : AreWithin limits.vco_in input
  pub vco : AreWithin limits.vco (vco_of input n)
  pub i2sclk : IsAtMost (i2sclk_of input n r) (whole i2sclk_most)

-- where the HSE is the PLL's source, its input is taken and its frequency is within its bounds; whether the main PLL is used
-- makes no difference
abbrev pub SourceIsFed : TableParts → Facts → ClockChoice → Type 0
SourceIsFed t f home = IsTrue (is_hse home.psrc) → IsTrue f.osc_in × IsBetween (hse_bounds t f).0 (hse_bounds t f).1 f.hse_hz

-- the ranges of R, DIV and ODD
pub record HasDividers (x : I2s) : Type 0 where
  pub r : IsBetween 2 7 x.r
  pub div : IsBetween 2 255 x.div
  pub odd : x.odd ≤ 1

-- a choice that keeps all limits
pub record Meets (t : TableParts) (f : Facts) (home : ClockChoice) (x : I2s) : Type 0 where
  pub n : IsBetween t.clock.n.0 t.clock.n.1 x.n
  pub dividers : HasDividers x
  pub source : SourceIsFed t f home
  pub bounds : KeepsBounds t.limits (vco_in_of f home) x.n x.r

-- a choice that the registers hold (RM0090, RCC_PLLI2SCFGR and SPI_I2SPR)
pub record IsChoice (x : I2s) : Type 0 where
  pub n : IsBetween 50 432 x.n
  pub dividers : HasDividers x
