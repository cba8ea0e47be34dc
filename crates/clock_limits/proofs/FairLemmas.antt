-- The values of a box are within the widest.
use Rattle.std.proofs.Common.{ℕ, ◌+◌, ◌-◌, ◌<◌, List, length, drop, get_or, arith, length-drop, length-take}
use Rattle.res_base.specs.Lists.{Each}
use Rattle.res_model.specs.declared.clock.ClockBox.{ClockBox}
use Rattle.res_model.specs.Clock.{IsBetween}
use Rattle.clock_limits.specs.Ranges.{AreInRange, IsClockBox, IsRun, allowed, run_of, values_at}
use Rattle.clock_limits.specs.Fair.{IsFair, IsSpread}
use Rattle.clock_limits.proofs.SpreadLemmas.{each_take, each_drop, least_between, greatest_between}

pub run_some : (values : List (List ℕ)) (b : ClockBox) (k : ℕ) → IsRun values b k → 0 < length (run_of values b k)
unfolding run_of
run_some values b k is =
    let low = get_or b.lo k 0 in
    let high = get_or b.hi k 0 in
    let vs = values_at values k in
    let ordered = is.ordered in
    let inside = is.inside in
    omega (arith, length-take (high + 1 - low) (drop low vs), length-drop low vs)

run_each : (P : ℕ → Type 0) (values : List (List ℕ)) (b : ClockBox) (k : ℕ) → Each P (values_at values k) → Each P (run_of values b k)
unfolding run_of
run_each P values b k each =
    each_take P (get_or b.hi k 0 + 1 - get_or b.lo k 0) (drop (get_or b.lo k 0) (values_at values k))
    (each_drop P (get_or b.lo k 0) (values_at values k) each)

spread : (low high : ℕ) (values : List (List ℕ)) (b : ClockBox) (k : ℕ) → IsRun values b k → Each (IsBetween low high) (values_at values k) → IsSpread low high (run_of values b k)
spread low high values b k is each = record {
  some_value = run_some values b k is;
  least = least_between low high (run_of values b k) (run_some values b k is) (run_each (IsBetween low high) values b k each);
  greatest = greatest_between low high (run_of values b k) (run_some values b k is) (run_each (IsBetween low high) values b k each);
}

pub box_is_fair : (values : List (List ℕ)) (b : ClockBox) → IsClockBox values b → AreInRange values → IsFair (allowed values b)
box_is_fair values b is in_range = record {
  src = run_some values b 0 (is.runs 0 (omega arith));
  psrc = run_some values b 1 (is.runs 1 (omega arith));
  hpre = spread 1 512 values b 2 (is.runs 2 (omega arith)) in_range.hpre;
  p = spread 2 8 values b 3 (is.runs 3 (omega arith)) in_range.p;
  m = spread 2 63 values b 4 (is.runs 4 (omega arith)) in_range.m;
  n = spread 50 432 values b 5 (is.runs 5 (omega arith)) in_range.n;
  q = spread 2 15 values b 6 (is.runs 6 (omega arith)) in_range.q;
  ppre1 = spread 1 16 values b 7 (is.runs 7 (omega arith)) in_range.ppre1;
  ppre2 = spread 1 16 values b 8 (is.runs 8 (omega arith)) in_range.ppre2;
}
