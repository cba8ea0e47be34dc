-- Internal: a search along alternating steps, under way.
use Rattle.std.specs.Prelude.{◌≡◌, ℕ, ◌+◌, ◌≤◌, ◌<◌, ◌⊎◌, Bool, true, false, not, Option, Some, None, length, slice_index, slice_index_or, slice_set}
use Rattle.res_base.specs.declared.var_set.VarSet.{VarSet}
use Rattle.res_base.specs.VarSet.{in_set}
use Rattle.pin_match.specs.declared.walk.Walk.{Walk}
use Rattle.res_base.specs.Sums.{sum_below, one_if}

-- what the walk says of a variable: whether it is reached, where it stands, and from which it was reached
abbrev pub reached_in : Walk → ℕ → Bool
reached_in w v = slice_index_or w.reached v false

abbrev pub place_in : Walk → ℕ → ℕ
place_in w v = slice_index w.place v

abbrev pub from_in : Walk → ℕ → ℕ
from_in w v = slice_index w.from v

-- a place for each of 192 variables
pub record Long (w : Walk) : Type 0 where
  pub queue : length w.queue ≡ 192
  pub reached : length w.reached ≡ 192
  pub place : length w.place ≡ 192
  pub from : length w.from ≡ 192

-- each reached variable is in the queue, at its place, and was reached from an earlier one whose set has its resource
pub record IsWalk (n : ℕ) (fits : ℕ → ℕ → Bool) (f : ℕ → Option ℕ) (w : Walk) : Type 0 where
  pub few : n ≤ 192
  pub long : Long w
  pub count : w.len + sum_below n (λ v. one_if (not (reached_in w v))) ≡ n
  pub queued : (v : ℕ) → v < n → reached_in w v ≡ true → (place_in w v < w.len) × (slice_index w.queue (place_in w v) ≡ v)
  pub in_queue : (i : ℕ) → i < w.len → (slice_index w.queue i < n) × (reached_in w (slice_index w.queue i) ≡ true)
  pub back : (v r : ℕ) → v < n → reached_in w v ≡ true → f v ≡ Some r → (from_in w v < n) × (reached_in w (from_in w v) ≡ true) × (fits (from_in w v) r ≡ true) × (place_in w (from_in w v) < place_in w v)

-- the walk with one more variable
abbrev pub added : Walk → ℕ → ℕ → Walk
added w v u =
    record {
      queue = slice_set w.queue w.len v;
      len = w.len + 1;
      reached = slice_set w.reached v true;
      place = slice_set w.place v w.len;
      from = slice_set w.from v u;
    }

-- every variable below the bound that is left out is reached
abbrev pub LeftOut : ℕ → (ℕ → Option ℕ) → Walk → Type 0
LeftOut n f w = (v : ℕ) → v < n → f v ≡ None → reached_in w v ≡ true

-- what was reached stays, and stays in its place
pub record Grows (n : ℕ) (old new : Walk) : Type 0 where
  pub kept : (x : ℕ) → x < n → reached_in old x ≡ true → (reached_in new x ≡ true) × (place_in new x ≡ place_in old x)
  pub longer : old.len ≤ new.len
  pub fresh : (x : ℕ) → x < n → reached_in new x ≡ true → (reached_in old x ≡ true) ⊎ (old.len ≤ place_in new x)

-- the resource is that of a reached variable
abbrev pub IsHeld : ℕ → (ℕ → Option ℕ) → Walk → ℕ → Type 0
IsHeld n f w r = (x : ℕ) × (x < n) × (reached_in w x ≡ true) × (f x ≡ Some r)

-- the resources of the variable below a bound are scanned
pub record Scanned (n : ℕ) (fits : ℕ → ℕ → Bool) (f : ℕ → Option ℕ) (old w : Walk) (v bound : ℕ) : Type 0 where
  pub is_walk : IsWalk n fits f w
  pub grows : Grows n old w
  pub closed : (r : ℕ) → r < bound → fits v r ≡ true → IsHeld n f w r

-- the variables below a bound that are left out are in the walk, and no others
pub record Started (n : ℕ) (f : ℕ → Option ℕ) (w : Walk) (bound : ℕ) : Type 0 where
  pub is_walk : (fits : ℕ → ℕ → Bool) → IsWalk n fits f w
  pub left_out : (v : ℕ) → v < bound → v < n → f v ≡ None → reached_in w v ≡ true
  pub below : (v : ℕ) → v < n → reached_in w v ≡ true → v < bound

-- the variables in the first places are scanned
pub record Searched (n m : ℕ) (fits : ℕ → ℕ → Bool) (f : ℕ → Option ℕ) (w : Walk) (head : ℕ) : Type 0 where
  pub is_walk : IsWalk n fits f w
  pub left_out : LeftOut n f w
  pub closed : (x r : ℕ) → x < n → r < m → reached_in w x ≡ true → place_in w x < head → fits x r ≡ true → IsHeld n f w r

-- the members below a bound are what is reached, and there are no others
pub record IsSetOf (bound : ℕ) (w : Walk) (s : VarSet) : Type 0 where
  pub same : (x : ℕ) → x < bound → in_set s x ≡ reached_in w x
  pub none : (x : ℕ) → bound ≤ x → in_set s x ≡ false
