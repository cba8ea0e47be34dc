-- The size of a largest assignment, and the variables that one can leave out, as functions that compute.
use Rattle.std.specs.Prelude.{ℕ, zero, suc, ◌+◌, ◌*◌, max, Bool, not, ◌&&◌, ◌==◌, nat_lt, if◌then◌else◌, [], ◌∷◌, Option, Some, None}
use Rattle.res_base.specs.declared.var_set.VarSet.{VarSet}
use Rattle.res_base.specs.Sums.{one_if}

-- the greatest value at a number below m; 0 where there is none
abbrev pub greatest_below : ℕ → (ℕ → ℕ) → ℕ
greatest_below zero f = 0
greatest_below (suc m) f = max (greatest_below m f) (f m)

-- the sets without a resource
abbrev pub without : (ℕ → ℕ → Bool) → ℕ → ℕ → ℕ → Bool
without fits r = λ v x. fits v x && not (x == r)

-- the sets with that of one variable emptied
abbrev pub emptied : (ℕ → ℕ → Bool) → ℕ → ℕ → ℕ → Bool
emptied fits v = λ w r. fits w r && not (w == v)

-- how many of the first n variables can have a resource at once: the last of them has none, or one of its set, which then no other has
unfoldable pub most : ℕ → ℕ → (ℕ → ℕ → Bool) → ℕ
most zero m fits = 0
most (suc n) m fits = max (most n m fits) (greatest_below m (λ r. if fits n r then 1 + most n m (without fits r) else 0))

-- as many variables can have a resource where this one has none
abbrev pub is_left_out : ℕ → ℕ → (ℕ → ℕ → Bool) → ℕ → Bool
is_left_out n m fits v = nat_lt v n && (most n m (emptied fits v) == most n m fits)

-- the number whose bits are the answers of a test, on so many numbers from a first one on
unfoldable pub word_of : ℕ → ℕ → (ℕ → Bool) → ℕ
word_of zero first p = 0
word_of (suc count) first p = one_if (p first) + 2 * word_of count (first + 1) p

-- the set of the numbers below 192 that pass a test
unfoldable pub set_where : (ℕ → Bool) → VarSet
set_where p = record { words = word_of 64 0 p ∷ word_of 64 64 p ∷ word_of 64 128 p ∷ [] }

-- none where each variable can have a resource of its own, and else those that some largest assignment leaves out
unfoldable pub hall_of : ℕ → ℕ → (ℕ → ℕ → Bool) → Option VarSet
hall_of n m fits = if most n m fits == n then None else Some (set_where (is_left_out n m fits))
