-- Lists after a change at one place, and how often a number stands in one.
use Rattle.std.proofs.Common.{◌≡◌, ◌≢◌, ℕ, zero, suc, ◌+◌, ◌<◌, ◌≤◌, List, [], ◌∷◌, ◌++◌, ◌⊎◌, inl, inr, set, eqb, true, false, Some, refl, sym, subst, ap, ◌∙◌, arith}
use Rattle.std.specs.Prelude.{slice_get}
use Rattle.std.specs.List.{concat, flat_map}
use Rattle.std.proofs.lemmas.Option.{none-some, same_Some}
use Rattle.std.proofs.lemmas.Bool.Decides.{nat_tests}
use Rattle.res_base.specs.Lists.{Each, Member, total}
use Rattle.res_base.specs.Sums.{one_if}
use Rattle.res_base.proofs.ListLemmas.{each_in, some_part, total_append}
use Rattle.search_core.specs.Fits.{times}

-- what stands there already changes nothing
pub put_same : {X : Type 0} (xs : List X) (i : ℕ) (x : X) → slice_get xs i ≡ Some x → set xs i x ≡ xs
put_same [] i x e = refl
put_same (y ∷ ys) zero x e = ap (λ z. z ∷ ys) (sym (same_Some y x e))
put_same (y ∷ ys) (suc i) x e = ap (λ zs. y ∷ zs) (put_same ys i x e)

pub each_put : {X : Type 0} (P : X → Type 0) (xs : List X) (i : ℕ) (y : X) → Each P xs → P y → Each P (set xs i y)
each_put P [] i y h p = h
each_put P (x ∷ xs) zero y h p = (p, h.1)
each_put P (x ∷ xs) (suc i) y h p = (h.0, each_put P xs i y h.1 p)

pub each_get : {X : Type 0} (P : X → Type 0) (xs : List X) (i : ℕ) (x : X) → Each P xs → slice_get xs i ≡ Some x → P x
each_get P [] i x h e = absurd (none-some x e)
each_get P (y ∷ ys) zero x h e = subst P (same_Some y x e) h.0
each_get P (y ∷ ys) (suc i) x h e = each_get P ys i x h.1 e

pub total_put : {X : Type 0} (f : X → ℕ) (xs : List X) (i : ℕ) (x y : X) → slice_get xs i ≡ Some x → total f (set xs i y) + f x ≡ total f xs + f y
total_put f [] i x y e = absurd (none-some x e)
total_put f (z ∷ zs) zero x y e = let p : f z ≡ f x = ap f (same_Some z x e) in omega arith
total_put f (z ∷ zs) (suc i) x y e = omega (arith, total_put f zs i x y e)

-- a part is no more than the whole
pub part_get : {X : Type 0} (f : X → ℕ) (xs : List X) (i : ℕ) (x : X) → slice_get xs i ≡ Some x → f x ≤ total f xs
part_get f [] i x e = absurd (none-some x e)
part_get f (z ∷ zs) zero x e = let p : f z ≡ f x = ap f (same_Some z x e) in omega arith
part_get f (z ∷ zs) (suc i) x e = omega (arith, part_get f zs i x e)

pub part_of : {X : Type 0} (f : X → ℕ) (x : X) (xs : List X) → Member x xs → f x ≤ total f xs
part_of f x [] i = absurd i
part_of f x (y ∷ ys) i = elim i [
  | inl e ↦ let p : f x ≡ f y = ap f e in omega arith
  | inr k ↦ omega (arith, part_of f x ys k)
]

-- the same, where an element was put in another's place that has the same part
pub flat_put : {X : Type 0} {Y : Type 0} (f : X → List Y) (xs : List X) (i : ℕ) (x y : X) → slice_get xs i ≡ Some x → f y ≡ f x → flat_map f (set xs i y) ≡ flat_map f xs
flat_put f [] i x y e s = refl
flat_put f (z ∷ zs) zero x y e s = ap (λ a. a ++ flat_map f zs) (s ∙ ap f (sym (same_Some z x e)))
flat_put f (z ∷ zs) (suc i) x y e s = ap (λ a. f z ++ a) (flat_put f zs i x y e s)

-- sums over lists that are made of others
pub total_flat : {X : Type 0} {Y : Type 0} (h : Y → ℕ) (f : X → List Y) (xs : List X) → total h (flat_map f xs) ≡ total (λ x. total h (f x)) xs
total_flat h f [] = refl
total_flat h f (x ∷ xs) = omega (arith, total_append h (f x) (flat_map f xs), total_flat h f xs)

pub total_concat : (h : ℕ → ℕ) (xs : List (List ℕ)) → total h (concat xs) ≡ total (λ x. total h x) xs
total_concat h [] = refl
total_concat h (x ∷ xs) = omega (arith, total_append h x (concat xs), total_concat h xs)

-- a number is one or another
pub same_or : (x y : ℕ) → ((x ≡ y) × (eqb x y ≡ true)) ⊎ ((x ≢ y) × (eqb x y ≡ false))
same_or x y = grind (arith, nat_tests)

pub once_itself : (x : ℕ) → one_if (eqb x x) ≡ 1
once_itself x = elim (same_or x x) [ inl s ↦ ap one_if s.1 | inr d ↦ absurd (d.0 refl) ]

-- a number stands in a list where it does so at least once
pub member_times : (x : ℕ) (xs : List ℕ) → 0 < times x xs → Member x xs
member_times x xs h =
    let p = some_part (λ y. one_if (eqb y x)) xs h in
    elim (same_or p.0 x) [
      | inl s ↦ subst (λ y. Member y xs) s.0 p.1
      | inr d ↦ absurd (omega (arith, p.2, ap one_if d.1))
    ]

pub times_member : (x : ℕ) (xs : List ℕ) → Member x xs → 0 < times x xs
times_member x xs i = omega (arith, part_of (λ y. one_if (eqb y x)) x xs i, once_itself x)

-- each time that a number stands in a list adds its weight
pub times_weight : (g : ℕ → ℕ) (x : ℕ) (xs : List ℕ) → g x ≡ 1 → times x xs ≤ total g xs
times_weight g x [] e = omega arith
times_weight g x (y ∷ ys) e = elim (same_or y x) [
  | inl s ↦ omega (arith, ap g s.0, ap one_if s.1, e, times_weight g x ys e)
  | inr d ↦ omega (arith, ap one_if d.1, times_weight g x ys e)
]

pub each_member : {X : Type 0} (P : X → Type 0) (xs : List X) → ((x : X) → Member x xs → P x) → Each P xs
each_member P [] h = tt
each_member P (x ∷ xs) h = (h x (inl refl), each_member P xs (λ y i. h y (inr i)))

-- what holds of each number in two lists holds of each in a third one that has no more
pub each_within : (P : ℕ → Type 0) (old more new : List ℕ) → ((h : ℕ → ℕ) → total h new ≤ total h old + total h more) → Each P old → Each P more → Each P new
each_within P old more new w o m = each_member P new (λ x i.
    elim (some_of (times x old) (times x more) (omega (arith, w (λ y. one_if (eqb y x)), times_member x new i))) [
      | inl a ↦ each_in P x old o (member_times x old a)
      | inr b ↦ each_in P x more m (member_times x more b)
    ])
  where
    some_of : (a b : ℕ) → 0 < a + b → (0 < a) ⊎ (0 < b)
    some_of zero b h = inr (omega (arith, h))
    some_of (suc a) b h = inl (omega arith)
