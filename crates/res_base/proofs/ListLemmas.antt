-- Laws of the words on lists.
use Rattle.std.proofs.Common.{◌≡◌, ◌≢◌, ℕ, zero, suc, ◌+◌, ◌<◌, List, [], ◌∷◌, ◌++◌, ◌⊎◌, inl, inr, ⊎_elim, set, refl, sym, subst, ap, arith}
use mathlib.Core.Option.{some, some-ne-none, some-injective}
use lib.ListN.{get_elem?}
use Rattle.res_base.specs.Lists.{Each, Member, Pairwise, total}

pub each_push : {X : Type 0} (P : X → Type 0) (xs : List X) (y : X) → Each P xs → P y → Each P (xs ++ y ∷ [])
each_push P [] y h p = (p, tt)
each_push P (x ∷ xs) y h p = (h.0, each_push P xs y h.1 p)

pub each_prefix : {X : Type 0} (P : X → Type 0) (xs : List X) (y : X) → Each P (xs ++ y ∷ []) → Each P xs × P y
each_prefix P [] y h = (tt, h.0)
each_prefix P (x ∷ xs) y h = let r = each_prefix P xs y h.1 in ((h.0, r.0), r.1)

pub each_map : {X : Type 0} (P Q : X → Type 0) (xs : List X) → ((x : X) → P x → Q x) → Each P xs → Each Q xs
each_map P Q [] f h = tt
each_map P Q (x ∷ xs) f h = (f x h.0, each_map P Q xs f h.1)

pub each_in : {X : Type 0} (P : X → Type 0) (x : X) (xs : List X) → Each P xs → Member x xs → P x
each_in P x [] h i = absurd i
each_in P x (y ∷ ys) h i = elim i [ inl e ↦ subst P (sym e) h.0 | inr k ↦ each_in P x ys h.1 k ]

cases_pos : (n : ℕ) → (0 < n) ⊎ (n ≡ 0)
cases_pos zero = inr refl
cases_pos (suc n) = inl (omega arith)

-- what adds up to more than 0 has a part that does
pub some_part : {X : Type 0} (f : X → ℕ) (xs : List X) → 0 < total f xs → (x : X) × Member x xs × (0 < f x)
some_part f [] h = absurd (omega arith)
some_part f (x ∷ xs) h = elim (cases_pos (f x)) [
  | inl p ↦ (x, inl refl, p)
  | inr z ↦ let r = some_part f xs (omega arith) in (r.0, inr r.1, r.2)
]

pub pairs_push : {X : Type 0} (R : X → X → Type 0) (xs : List X) (y : X) → Pairwise R xs → Each (λ x. R x y) xs → Pairwise R (xs ++ y ∷ [])
pairs_push R [] y h e = (tt, tt)
pairs_push R (x ∷ xs) y h e = (each_push (R x) xs y h.0 e.0, pairs_push R xs y h.1 e.1)

pub pairs_prefix : {X : Type 0} (R : X → X → Type 0) (xs : List X) (y : X) → Pairwise R (xs ++ y ∷ []) → Pairwise R xs × Each (λ x. R x y) xs
pairs_prefix R [] y h = (tt, tt)
pairs_prefix R (x ∷ xs) y h =
    let a = each_prefix (R x) xs y h.0 in
    let b = pairs_prefix R xs y h.1 in
    ((a.0, b.0), (a.1, b.1))

pub member_left : {X : Type 0} (x : X) (xs ys : List X) → Member x xs → Member x (xs ++ ys)
member_left x [] ys h = absurd h
member_left x (z ∷ zs) ys h = ⊎_elim (λ e. inl e) (λ m. inr (member_left x zs ys m)) h

pub member_right : {X : Type 0} (x : X) (xs ys : List X) → Member x ys → Member x (xs ++ ys)
member_right x [] ys h = h
member_right x (z ∷ zs) ys h = inr (member_right x zs ys h)

pub member_split : {X : Type 0} (x : X) (xs ys : List X) → Member x (xs ++ ys) → Member x xs ⊎ Member x ys
member_split x [] ys h = inr h
member_split x (z ∷ zs) ys h = ⊎_elim (λ e. inl (inl e)) (λ m. ⊎_elim (λ a. inl (inr a)) (λ b. inr b) (member_split x zs ys m)) h

pub member_last : {X : Type 0} (x : X) (xs : List X) → Member x (xs ++ x ∷ [])
member_last x xs = member_right x xs (x ∷ []) (inl refl)

pub member_one : {X : Type 0} (x y : X) → Member x (y ∷ []) → x ≡ y
member_one x y h = ⊎_elim (λ e. e) (λ m. absurd m) h

-- sums, after a change of one element
module _ {V : Type 0} (f : V → ℕ) where
  pub total_set : (views : List V) (port : ℕ) (v w : V) → get_elem? views port ≡ some v → total f (set views port w) + f v ≡ total f views + f w
  total_set [] port v w e = absurd (some-ne-none v (sym e))
  total_set (x ∷ xs) zero v w e = let p : f x ≡ f v = ap f (some-injective x v e) in omega arith
  total_set (x ∷ xs) (suc k) v w e = omega (arith, total_set xs k v w e)

  pub total_snoc : (xs : List V) (x : V) → total f (xs ++ x ∷ []) ≡ total f xs + f x
  total_snoc [] x = omega arith
  total_snoc (y ∷ ys) x = omega (arith, total_snoc ys x)

  pub total_append : (xs ys : List V) → total f (xs ++ ys) ≡ total f xs + total f ys
  total_append [] ys = omega arith
  total_append (x ∷ xs) ys = omega (arith, total_append xs ys)

  pub total_zero : (xs : List V) → ((j : ℕ) (u : V) → get_elem? xs j ≡ some u → f u ≡ 0) → total f xs ≡ 0
  total_zero [] h = refl
  total_zero (x ∷ xs) h = omega (arith, h 0 x refl, total_zero xs (λ j u e. h (suc j) u e))

  pub zero_each : (xs : List V) → total f xs ≡ 0 → (j : ℕ) (u : V) → get_elem? xs j ≡ some u → f u ≡ 0
  zero_each [] h j u e = absurd (some-ne-none u (sym e))
  zero_each (x ∷ xs) h zero u e = let p : f x ≡ f u = ap f (some-injective x u e) in omega arith
  zero_each (x ∷ xs) h (suc j) u e = zero_each xs (omega arith) j u e

  pub total_only : (xs : List V) (port : ℕ) (v : V) → get_elem? xs port ≡ some v → ((j : ℕ) (u : V) → j ≢ port → get_elem? xs j ≡ some u → f u ≡ 0) → total f xs ≡ f v
  total_only [] port v e h = absurd (some-ne-none v (sym e))
  total_only (x ∷ xs) zero v e h = let p : f x ≡ f v = ap f (some-injective x v e) in omega (arith, total_zero xs (λ j u at. h (suc j) u (λ q. omega arith) at))
  total_only (x ∷ xs) (suc k) v e h = omega (arith, h 0 x (λ q. omega arith) refl, total_only xs k v e (λ j u n at. h (suc j) u (λ q. n (omega arith)) at))

  pub total_most : (xs : List V) (port : ℕ) (v : V) → get_elem? xs port ≡ some v → (m : ℕ) → total f xs ≡ m → (k : ℕ) × (f v + k ≡ m)
  total_most [] port v e m is = absurd (some-ne-none v (sym e))
  total_most (x ∷ xs) zero v e m is = let p : f x ≡ f v = ap f (some-injective x v e) in (total f xs, omega arith)
  total_most (x ∷ xs) (suc k) v e m is = let r = total_most xs k v e (total f xs) refl in (f x + r.0, omega (arith, r.1))
