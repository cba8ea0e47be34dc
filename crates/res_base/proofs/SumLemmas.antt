-- Laws of sums.
use Rattle.std.proofs.Common.{◌≡◌, ◌≢◌, ℕ, zero, suc, ◌+◌, ◌<◌, ◌≤◌, Bool, true, false, cond, eqb, ◌⊎◌, inl, inr, refl, sym, subst, ap, arith}
use Rattle.std.proofs.lemmas.Bool.Decides.{nat_tests}
use Rattle.res_base.specs.Sums.{sum_below, one_if}

pub sum_le : (n : ℕ) (f g : ℕ → ℕ) → ((k : ℕ) → k < n → f k ≤ g k) → sum_below n f ≤ sum_below n g
sum_le zero f g h = omega arith
sum_le (suc n) f g h = omega (arith, sum_le n f g (λ k l. h k (omega arith)), h n (omega arith))

pub sum_same : (n : ℕ) (f g : ℕ → ℕ) → ((k : ℕ) → k < n → f k ≡ g k) → sum_below n f ≡ sum_below n g
sum_same zero f g h = refl
sum_same (suc n) f g h = omega (arith, sum_same n f g (λ k l. h k (omega arith)), h n (omega arith))

pub sum_zero : (n : ℕ) (f : ℕ → ℕ) → ((k : ℕ) → k < n → f k ≡ 0) → sum_below n f ≡ 0
sum_zero zero f h = refl
sum_zero (suc n) f h = omega (arith, sum_zero n f (λ k l. h k (omega arith)), h n (omega arith))

pub sum_add : (n : ℕ) (f g : ℕ → ℕ) → sum_below n (λ k. f k + g k) ≡ sum_below n f + sum_below n g
sum_add zero f g = refl
sum_add (suc n) f g = omega (arith, sum_add n f g)

pub sum_swap : (n m : ℕ) (f : ℕ → ℕ → ℕ) → sum_below n (λ v. sum_below m (λ r. f v r)) ≡ sum_below m (λ r. sum_below n (λ v. f v r))
sum_swap zero m f = sym (sum_zero m (λ r. 0) (λ k l. refl))
sum_swap (suc n) m f = omega (arith, sum_swap n m f, sum_add m (λ r. sum_below n (λ v. f v r)) (λ r. f n r))

pub split : (k n : ℕ) → (k ≡ n) ⊎ (k ≢ n)
split k n = grind (arith, nat_tests)

pub le_or : (k n : ℕ) → (k < n) ⊎ (n ≤ k)
le_or k n = grind (arith, nat_tests)

-- a part is no more than the whole
pub part_le : (n k : ℕ) (f : ℕ → ℕ) → k < n → f k ≤ sum_below n f
part_le zero k f h = absurd (omega arith)
part_le (suc n) k f h = elim (split k n) [ inl e ↦ rw e (omega arith) | inr d ↦ omega (arith, part_le n k f (omega (arith, d))) ]

pub bool_cases : (b : Bool) → (b ≡ true) ⊎ (b ≡ false)
bool_cases true = inl refl
bool_cases false = inr refl

-- what at most one number passes
pub at_most_one : (n : ℕ) (p : ℕ → Bool) → ((v w : ℕ) → v < n → w < n → p v ≡ true → p w ≡ true → v ≡ w) → sum_below n (λ v. one_if (p v)) ≤ 1
at_most_one zero p h = omega arith
at_most_one (suc n) p h = elim (bool_cases (p n)) [
  | inl e ↦
      let none : (k : ℕ) → k < n → one_if (p k) ≡ 0 = λ k l. elim (bool_cases (p k)) [ inl q ↦ absurd (omega (arith, h k n (omega arith) (omega arith) q e)) | inr q ↦ ap one_if q ] in
      omega (arith, sum_zero n (λ v. one_if (p v)) none, ap one_if e)
  | inr e ↦ omega (arith, at_most_one n p (λ v w k l. h v w (omega arith) (omega arith)), ap one_if e)
]

pub pos_cases : (n : ℕ) → (0 < n) ⊎ (n ≡ 0)
pos_cases zero = inr refl
pos_cases (suc n) = inl (omega arith)

-- a sum above 0 has a part above 0
pub some_below : (n : ℕ) (f : ℕ → ℕ) → 0 < sum_below n f → (k : ℕ) × (k < n) × (0 < f k)
some_below zero f h = absurd (omega arith)
some_below (suc n) f h = elim (pos_cases (f n)) [
  | inl p ↦ (n, omega arith, p)
  | inr z ↦ let r = some_below n f (omega (arith, z)) in (r.0, omega (arith, r.1), r.2)
]

-- no part is more, and one is less
pub sum_lt : (n k : ℕ) (f g : ℕ → ℕ) → k < n → ((j : ℕ) → j < n → f j ≤ g j) → f k < g k → sum_below n f < sum_below n g
sum_lt zero k f g l h s = absurd (omega arith)
sum_lt (suc n) k f g l h s = elim (split k n) [
  | inl e ↦ let t : f n < g n = subst (λ j. f j < g j) e s in omega (arith, sum_le n f g (λ j q. h j (omega arith)))
  | inr d ↦ omega (arith, sum_lt n k f g (omega (arith, d)) (λ j q. h j (omega arith)) s, h n (omega arith))
]

-- one part is changed
pub sum_put : (n u x : ℕ) (f : ℕ → ℕ) → u < n → sum_below n (λ k. cond (eqb k u) x (f k)) + f u ≡ sum_below n f + x
sum_put zero u x f h = absurd (omega arith)
sum_put (suc n) u x f h = elim (split u n) [
  | inl e ↦
      let same = sum_same n (λ k. cond (eqb k u) x (f k)) f (λ k l. let d : eqb k u ≡ false = grind (arith, nat_tests) in rw d refl) in
      let here : cond (eqb n u) x (f n) ≡ x = let t : eqb n u ≡ true = grind (arith, nat_tests) in rw t refl in
      omega (arith, same, here, ap f e)
  | inr d ↦
      let there : cond (eqb n u) x (f n) ≡ f n = let t : eqb n u ≡ false = grind (arith, nat_tests) in rw t refl in
      omega (arith, sum_put n u x f (omega (arith, d)), there)
]
