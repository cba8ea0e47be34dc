-- Assignments of resources to variables. `fits v r` says that resource r is in the set of variable v.
use Rattle.std.specs.Prelude.{◌≡◌, ℕ, ◌≤◌, ◌<◌, Bool, true, Option, Some, None, is_some}
use Rattle.res_base.specs.Sums.{sum_below, one_if}

-- each of the n variables that has a resource has one of the m, in its set, and no two the same
pub record IsAssignment (n m : ℕ) (fits : ℕ → ℕ → Bool) (f : ℕ → Option ℕ) : Type 0 where
  pub in_set : (v r : ℕ) → v < n → f v ≡ Some r → fits v r ≡ true
  pub in_range : (v r : ℕ) → v < n → f v ≡ Some r → r < m
  pub apart : (v w r : ℕ) → v < n → w < n → f v ≡ Some r → f w ≡ Some r → v ≡ w

-- how many variables have a resource
abbrev pub size_of : ℕ → (ℕ → Option ℕ) → ℕ
size_of n f = sum_below n (λ v. one_if (is_some (f v)))

-- no assignment serves more variables
pub record IsLargest (n m : ℕ) (fits : ℕ → ℕ → Bool) (f : ℕ → Option ℕ) : Type 0 where
  pub is_assignment : IsAssignment n m fits f
  pub largest : (g : ℕ → Option ℕ) → IsAssignment n m fits g → size_of n g ≤ size_of n f

-- some largest assignment leaves the variable out
abbrev pub CanBeLeftOut : ℕ → ℕ → (ℕ → ℕ → Bool) → ℕ → Type 0
CanBeLeftOut n m fits v = (f : ℕ → Option ℕ) × IsLargest n m fits f × (f v ≡ None)

-- each variable can have a resource of its set, and no two the same
abbrev pub IsFull : ℕ → ℕ → (ℕ → ℕ → Bool) → Type 0
IsFull n m fits = (f : ℕ → Option ℕ) × IsAssignment n m fits f × ((v : ℕ) → v < n → (r : ℕ) × (f v ≡ Some r))

-- what a search along alternating steps has reached: the variables left out, and from each reached one
-- those that have a resource of its set. A rank falls along the steps back
pub record IsReached (n m : ℕ) (fits : ℕ → ℕ → Bool) (f : ℕ → Option ℕ) (reached : ℕ → Bool) (rank : ℕ → ℕ) : Type 0 where
  pub left_out : (v : ℕ) → v < n → f v ≡ None → reached v ≡ true
  pub closed : (v r : ℕ) → v < n → r < m → reached v ≡ true → fits v r ≡ true → (w : ℕ) × (w < n) × (reached w ≡ true) × (f w ≡ Some r)
  pub back : (v r : ℕ) → v < n → reached v ≡ true → f v ≡ Some r → (u : ℕ) × (u < n) × (reached u ≡ true) × (fits u r ≡ true) × (rank u < rank v)
