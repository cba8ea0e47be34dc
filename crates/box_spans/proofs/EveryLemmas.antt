-- All values are within the widest, and are those in the box of all positions.
use Rattle.std.proofs.Common.{◌≡◌, ℕ, ◌+◌, ◌-◌, ◌<◌, List, length, take, drop, get_or, arith}
use Rattle.std.proofs.lemmas.Grind.{common_steps}
use Rattle.res_base.specs.Lists.{Each}
use Rattle.res_model.specs.declared.clock.ClockBox.{ClockBox}
use Rattle.res_model.specs.Clock.{IsBetween}
use Rattle.clock_limits.specs.Ranges.{AreInRange, allowed, run_of, values_at}
use Rattle.clock_limits.specs.Fair.{IsFair, IsSpread}
use Rattle.clock_limits.proofs.SpreadLemmas.{least_between, greatest_between}
use Rattle.box_spans.specs.Every.{AreFilled, IsWholeBox, every}

spread : (low high : ℕ) (vs : List ℕ) → 0 < length vs → Each (IsBetween low high) vs → IsSpread low high vs
spread low high vs some each = record {
  some_value = some;
  least = least_between low high vs some each;
  greatest = greatest_between low high vs some each;
}

pub every_is_fair : (values : List (List ℕ)) → AreFilled values → AreInRange values → IsFair (every values)
every_is_fair values filled in_range = record {
  src = filled.some_value 0 (omega arith);
  psrc = filled.some_value 1 (omega arith);
  hpre = spread 1 512 (values_at values 2) (filled.some_value 2 (omega arith)) in_range.hpre;
  p = spread 2 8 (values_at values 3) (filled.some_value 3 (omega arith)) in_range.p;
  m = spread 2 63 (values_at values 4) (filled.some_value 4 (omega arith)) in_range.m;
  n = spread 50 432 (values_at values 5) (filled.some_value 5 (omega arith)) in_range.n;
  q = spread 2 15 (values_at values 6) (filled.some_value 6 (omega arith)) in_range.q;
  ppre1 = spread 1 16 (values_at values 7) (filled.some_value 7 (omega arith)) in_range.ppre1;
  ppre2 = spread 1 16 (values_at values 8) (filled.some_value 8 (omega arith)) in_range.ppre2;
}

take_all : (vs : List ℕ) (n : ℕ) → n ≡ length vs → take n vs ≡ vs
take_all vs n e = grind (arith, common_steps)

all_of : (vs : List ℕ) (low high : ℕ) → low ≡ 0 → high + 1 ≡ length vs → take (high + 1 - low) (drop low vs) ≡ vs
all_of vs low high e f = rw e (take_all vs (high + 1 - 0) (omega (arith, f)))

run_is : (values : List (List ℕ)) (b : ClockBox) → IsWholeBox values b → (k : ℕ) → k < 10 → run_of values b k ≡ values_at values k
unfolding run_of
run_is values b w k l = all_of (values_at values k) (get_or b.lo k 0) (get_or b.hi k 0) (w.low k l) (w.high k l)

pub whole_box : (values : List (List ℕ)) (b : ClockBox) → IsWholeBox values b → allowed values b ≡ every values
whole_box values b w =
    rw (
      run_is values b w 0 (omega arith),
      run_is values b w 1 (omega arith),
      run_is values b w 2 (omega arith),
      run_is values b w 3 (omega arith),
      run_is values b w 4 (omega arith),
      run_is values b w 5 (omega arith),
      run_is values b w 6 (omega arith),
      run_is values b w 7 (omega arith),
      run_is values b w 8 (omega arith),
      run_is values b w 9 (omega arith),
    )
