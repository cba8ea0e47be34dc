-- What a matcher is for.
use Rattle.std.specs.Prelude.{ℕ}

-- so many variables and resources
pub record Sizes : Type 0 where
  pub variables : ℕ
  pub resources : ℕ
