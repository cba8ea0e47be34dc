-- The choice of least error among those that keep the limits.
use Rattle.std.specs.Prelude.{◌≡◌, ℕ, ◌+◌, ◌-◌, ◌*◌, ◌<◌, ◌≤◌, ◌⊎◌, Option, Some, None}
use Rattle.res_base.specs.Fraction.{Fraction, Equals}
use Rattle.res_model.specs.Clock.{vco_in_of}
use Rattle.res_model.specs.declared.clock.ClockChoice.{ClockChoice}
use Rattle.res_model.specs.declared.clock.Facts.{Facts}
use Rattle.res_model.specs.declared.table.TableParts.{TableParts}
use Rattle.i2s_pll.specs.declared.choice.I2s.{I2s}
use Rattle.i2s_pll.specs.Choices.{Meets, sample_rate}

-- how far apart two numbers are
abbrev pub apart : ℕ → ℕ → ℕ
apart a b = (a - b) + (b - a)

-- how far a fraction is from a whole number
abbrev pub distance : Fraction → ℕ → Fraction
distance x n = record { num = apart x.num (n * x.den); den = x.den }

-- how far the sample rate is from the one that is wanted
abbrev pub error_of : Fraction → ℕ → I2s → Fraction
error_of input rate x = distance (sample_rate input x) rate

abbrev pub IsLess : Fraction → Fraction → Type 0
IsLess a b = a.num * b.den < b.num * a.den

-- the lesser N is first, then the lesser R, the lesser DIV and the lesser ODD
abbrev pub IsFirst : I2s → I2s → Type 0
IsFirst x y = (x.n < y.n) ⊎ ((x.n ≡ y.n) × ((x.r < y.r) ⊎ ((x.r ≡ y.r) × ((x.div < y.div) ⊎ ((x.div ≡ y.div) × (x.odd ≤ y.odd))))))

-- the lesser error comes first; of equal ones the first choice does
abbrev pub ComesFirst : Fraction → ℕ → I2s → I2s → Type 0
ComesFirst input rate x y = IsLess (error_of input rate x) (error_of input rate y) ⊎ (Equals (error_of input rate x) (error_of input rate y) × IsFirst x y)

-- it keeps the limits, and comes before every choice that does
pub record IsLeast (t : TableParts) (f : Facts) (home : ClockChoice) (rate : ℕ) (x : I2s) : Type 0 where
  pub meets : Meets t f home x
  pub first : (y : I2s) → Meets t f home y → ComesFirst (vco_in_of f home) rate x y

-- no choice keeps the limits
abbrev pub NoneMeets : TableParts → Facts → ClockChoice → Type 0
NoneMeets t f home = (x : I2s) → Meets t f home x → ⊥

-- the least choice, or that there is none
abbrev pub IsAnswer : TableParts → Facts → ClockChoice → ℕ → Option I2s → Type 0
IsAnswer t f home rate None = NoneMeets t f home
IsAnswer t f home rate (Some x) = IsLeast t f home rate x
