-- How large values and nodes are.
use Rattle.std.specs.Prelude.{ℕ, ◌<◌, ◌≤◌, List, length}
use Rattle.res_model.specs.Clock.{IsBetween}
use Rattle.clock_limits.specs.Ranges.{Allowed, least_of, greatest_of}
use Rattle.res_model.specs.declared.clock.Range.{Range}

-- there are values, within these
pub record IsSpread (low high : ℕ) (vs : List ℕ) : Type 0 where
  pub some_value : 0 < length vs
  pub least : IsBetween low high (least_of vs)
  pub greatest : IsBetween low high (greatest_of vs)

-- each variable has values, within the widest
pub record IsFair (a : Allowed) : Type 0 where
  pub src : 0 < length a.src
  pub psrc : 0 < length a.psrc
  pub hpre : IsSpread 1 512 a.hpre
  pub p : IsSpread 2 8 a.p
  pub m : IsSpread 2 63 a.m
  pub n : IsSpread 50 432 a.n
  pub q : IsSpread 2 15 a.q
  pub ppre1 : IsSpread 1 16 a.ppre1
  pub ppre2 : IsSpread 1 16 a.ppre2

-- the parts of both ends of a range
pub record HasSize (num den : ℕ) (r : Range) : Type 0 where
  pub least_num : r.least.num ≤ num
  pub least_some : 0 < r.least.den
  pub least_den : r.least.den ≤ den
  pub most_num : r.most.num ≤ num
  pub most_some : 0 < r.most.den
  pub most_den : r.most.den ≤ den
