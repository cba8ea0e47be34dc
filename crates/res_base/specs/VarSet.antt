-- Sets of numbers below 192, in three words.
use Rattle.std.specs.Prelude.{ℕ, ◌/◌, ◌%◌, ◌≡◌, ◌<◌, ◌≤◌, Bool, true, false, ◌^◌, length, slice_index}
use Rattle.std.specs.Int.{bit_at}
use Rattle.std.proofs.Math.Dec.{eqb}
use Rattle.res_base.specs.declared.var_set.VarSet.{VarSet}
use Rattle.res_base.specs.Sums.{sum_below, one_if}

-- v is in the set
unfoldable pub in_set : VarSet → ℕ → Bool
in_set s v = eqb (bit_at (slice_index s.words (v / 64)) (v % 64)) 1

-- nothing passes from a number on
abbrev pub NoneFrom : (ℕ → Bool) → ℕ → Type 0
NoneFrom p from = (x : ℕ) → from ≤ x → x < 192 → p x ≡ false

-- the least number that passes from a number on
pub record IsNext (p : ℕ → Bool) (from r : ℕ) : Type 0 where
  pub at_least : from ≤ r
  pub below : r < 192
  pub member : p r ≡ true
  pub before : (x : ℕ) → from ≤ x → x < r → p x ≡ false

-- three words of 64 bits
pub record IsWords (s : VarSet) : Type 0 where
  pub long : length s.words ≡ 3
  pub high : (k : ℕ) → k < 3 → slice_index s.words k < 2 ^ 64

-- how many members
unfoldable pub set_size : VarSet → ℕ
set_size s = sum_below 192 (λ v. one_if (in_set s v))
