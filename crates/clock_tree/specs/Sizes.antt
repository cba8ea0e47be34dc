-- Internal: how large the parts of a node are.
use Rattle.std.specs.Prelude.{ℕ, ◌≤◌}
use Rattle.res_base.specs.Fraction.{Fraction}

pub record HasSize (num den : ℕ) (x : Fraction) : Type 0 where
  pub num_most : x.num ≤ num
  pub den_most : x.den ≤ den
