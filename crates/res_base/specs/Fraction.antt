-- Fractions, compared by cross multiplication and never rounded.
use Rattle.std.specs.Prelude.{◌≡◌, ℕ, ◌*◌, ◌≤◌, ◌<◌, ◌^◌, Bool, nat_le}

pub record Fraction : Type 0 where
  pub num : ℕ
  pub den : ℕ

abbrev pub IsAtMost : Fraction → Fraction → Type 0
IsAtMost a b = a.num * b.den ≤ b.num * a.den

-- the same as a test
abbrev pub at_most : Fraction → Fraction → Bool
at_most a b = nat_le (a.num * b.den) (b.num * a.den)

-- both are one number
abbrev pub Equals : Fraction → Fraction → Type 0
Equals a b = a.num * b.den ≡ b.num * a.den

-- what the type `Ratio` keeps
pub record IsSmall (num den : ℕ) : Type 0 where
  pub num_small : num < 2 ^ 63
  pub den_positive : 0 < den
  pub den_small : den < 2 ^ 31

-- a whole number
abbrev pub whole : ℕ → Fraction
whole n = record { num = n; den = 1 }

-- a fraction times a whole number, and over one
abbrev pub times : Fraction → ℕ → Fraction
times a n = record { num = a.num * n; den = a.den }

abbrev pub over : Fraction → ℕ → Fraction
over a n = record { num = a.num; den = a.den * n }
