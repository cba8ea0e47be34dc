-- Internal: what the search keeps.
use Rattle.std.specs.Prelude.{◌≡◌, ℕ, ◌+◌, ◌*◌, ◌<◌, ◌≤◌, ◌⊎◌, Option, Some, None}
use Rattle.res_base.specs.Fraction.{Fraction, Equals, IsAtMost}
use Rattle.res_model.specs.declared.table.Bounds.{Bounds}
use Rattle.i2s_pll.specs.declared.choice.I2s.{I2s}
use Rattle.i2s_pll.specs.Choices.{HasDividers, KeepsBounds, divider}
use Rattle.i2s_pll.specs.Least.{error_of}

-- the place of N and R in the order of the search, and the place of a choice
abbrev pub place_of : I2s → ℕ
place_of x = x.n * 8 + x.r

abbrev pub weight : I2s → ℕ
weight x = place_of x * 512 + divider x

-- an error that is not greater, and where both are equal a place that is not higher
pub record IsBefore (a b : Fraction) (u v : ℕ) : Type 0 where
  pub least : IsAtMost a b
  pub tie : Equals a b → u ≤ v

abbrev pub Leads : Fraction → ℕ → I2s → I2s → Type 0
Leads input rate x y = IsBefore (error_of input rate x) (error_of input rate y) (weight x) (weight y)

-- the one of two that leads both
pub record IsNearer (input : Fraction) (rate : ℕ) (a b x : I2s) : Type 0 where
  pub one : (x ≡ a) ⊎ (x ≡ b)
  pub first : Leads input rate x a
  pub second : Leads input rate x b

-- the choice that leads all with this N and R
pub record IsNearest (input : Fraction) (rate n r : ℕ) (x : I2s) : Type 0 where
  pub n_is : x.n ≡ n
  pub r_is : x.r ≡ r
  pub dividers : HasDividers x
  pub leads : (y : I2s) → y.n ≡ n → y.r ≡ r → HasDividers y → Leads input rate x y

-- a choice that keeps its limits, from the least N on and below this place
pub record IsSeen (limits : Bounds) (input : Fraction) (least place : ℕ) (x : I2s) : Type 0 where
  pub dividers : HasDividers x
  pub bounds : KeepsBounds limits input x.n x.r
  pub low : least ≤ x.n
  pub below : place_of x < place

-- the one that leads all that were seen, or none where none was
abbrev pub IsBest : Fraction → ℕ → (I2s → Type 0) → Option I2s → Type 0
IsBest input rate Seen None = (y : I2s) → Seen y → ⊥
IsBest input rate Seen (Some x) = Seen x × ((y : I2s) → Seen y → Leads input rate x y)
