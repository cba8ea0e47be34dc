-- All values of the clock variables, the ranges of the nodes over them, and what these take for granted.
use Rattle.std.specs.Prelude.{◌≡◌, ℕ, ◌+◌, ◌<◌, List, length, slice_index}
use Rattle.res_model.specs.declared.clock.ClockBox.{ClockBox}
use Rattle.res_model.specs.declared.clock.Facts.{Facts}
use Rattle.clock_limits.specs.Ranges.{Allowed, clk48_range, hclk_range, hclk_reach, pclk1_range, pclk2_range, sysclk_range, values_at, vco_in_range, vco_range}
use Rattle.clock_limits.specs.declared.ranges.NodeRanges.{NodeRanges}

-- all values of each clock variable
abbrev pub every : List (List ℕ) → Allowed
every values = record {
  src = values_at values 0;
  psrc = values_at values 1;
  hpre = values_at values 2;
  p = values_at values 3;
  m = values_at values 4;
  n = values_at values 5;
  q = values_at values 6;
  ppre1 = values_at values 7;
  ppre2 = values_at values 8;
  vos = values_at values 9;
}

-- the ranges of the nodes over all values
abbrev pub ranges_of : Facts → List (List ℕ) → NodeRanges
ranges_of f values = record {
  vco_in = vco_in_range f (every values);
  vco = vco_range f (every values);
  clk48 = clk48_range f (every values);
  sysclk = sysclk_range f (every values);
  hclk_reach = hclk_reach f (every values);
  hclk = hclk_range f (every values);
  pclk1 = pclk1_range f (every values);
  pclk2 = pclk2_range f (every values);
}

-- each of ten clock variables has a value
pub record AreFilled (values : List (List ℕ)) : Type 0 where
  pub ten : length values ≡ 10
  pub some_value : (k : ℕ) → k < 10 → 0 < length (values_at values k)

-- the box has all positions
pub record IsWholeBox (values : List (List ℕ)) (b : ClockBox) : Type 0 where
  pub low : (k : ℕ) → k < 10 → slice_index b.lo k ≡ 0
  pub high : (k : ℕ) → k < 10 → slice_index b.hi k + 1 ≡ length (values_at values k)
