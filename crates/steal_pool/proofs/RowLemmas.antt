-- Lists of ends, row by row.
use Rattle.std.proofs.Common.{◌≡◌, ◌≢◌, ℕ, zero, suc, ◌<◌, ◌≤◌, List, [], ◌∷◌, ◌++◌, map, take, drop, length, set, get_or, sym, refl, ap, subst, arith}
use mathlib.Core.Option.{some, some-ne-none, some-injective}
use lib.ListN.{get_elem?}
use Rattle.res_base.specs.Lists.{Each}

module _ {X : Type 0} (P : X → Type 0) where
  pub each_take_set : (xs : List X) (k : ℕ) (y : X) → P y → k < length xs → Each P (take k xs) → Each P (take (suc k) (set xs k y))
  each_take_set [] k y p lt e = absurd (omega arith)
  each_take_set (x ∷ xs) zero y p lt e = (p, tt)
  each_take_set (x ∷ xs) (suc k) y p lt e = (e.0, each_take_set xs k y p (omega arith) e.1)

  pub each_drop_set : (xs : List X) (k : ℕ) (y : X) → Each P (drop k xs) → Each P (drop (suc k) (set xs k y))
  each_drop_set [] k y e = tt
  each_drop_set (x ∷ xs) zero y e = e.1
  each_drop_set (x ∷ xs) (suc k) y e = each_drop_set xs k y e

  pub each_drop_at : (xs : List X) (k : ℕ) (x : X) → get_elem? xs k ≡ some x → Each P (drop k xs) → P x
  each_drop_at [] k x at e = absurd (some-ne-none x (sym at))
  each_drop_at (y ∷ ys) zero x at e = subst P (some-injective y x at) e.0
  each_drop_at (y ∷ ys) (suc k) x at e = each_drop_at ys k x at e

not_empty : {X : Type 0} (xs : List X) (x : X) → xs ++ x ∷ [] ≢ []
not_empty [] x e = cc
not_empty (y ∷ ys) x e = cc

pub snoc_inj : {X : Type 0} (xs ys : List X) (x y : X) → xs ++ x ∷ [] ≡ ys ++ y ∷ [] → (xs ≡ ys) × (x ≡ y)
snoc_inj [] [] x y e = (refl, cc)
snoc_inj {X} [] (z ∷ zs) x y e = let t : [] ≡ zs ++ y ∷ [] = cc in absurd (not_empty zs y (sym t))
snoc_inj {X} (w ∷ ws) [] x y e = let t : ws ++ x ∷ [] ≡ [] = cc in absurd (not_empty ws x t)
snoc_inj {X} (w ∷ ws) (z ∷ zs) x y e = let h : w ≡ z = cc in let t : ws ++ x ∷ [] ≡ zs ++ y ∷ [] = cc in let r = snoc_inj ws zs x y t in (λ i. h i ∷ r.0 i, r.1)

pub map_snoc : {X Y : Type 0} (f : X → Y) (xs : List X) (x : X) → map f (xs ++ x ∷ []) ≡ map f xs ++ f x ∷ []
map_snoc f [] x = refl
map_snoc f (y ∷ ys) x = ap (λ l. f y ∷ l) (map_snoc f ys x)

-- a slice that is a whole vector, written back
pub whole : {X : Type 0} (xs ys : List X) (n : ℕ) → n ≡ length xs → length xs ≡ length ys → take n (xs ++ drop (length xs) ys) ≡ xs
whole {X} xs ys n e f = subst (λ (k : ℕ). take k (xs ++ drop (length xs) ys) ≡ xs) (sym e) (go xs ys f)
  where
    go : (xs ys : List X) → length xs ≡ length ys → take (length xs) (xs ++ drop (length xs) ys) ≡ xs
    go [] ys f = refl
    go (x ∷ xs) [] f = absurd (omega arith)
    go (x ∷ xs) (y ∷ ys) f = ap (λ l. x ∷ l) (go xs ys (omega arith))

pub no_ends : {X Y : Type 0} (f : X → Y) (xs : List X) → map f xs ≡ [] → xs ≡ []
no_ends f [] e = refl
no_ends f (x ∷ xs) e = let n : f x ∷ map f xs ≡ [] = e in absurd (cc)

pub no_items : {X : Type 0} (xs : List X) → length xs ≡ 0 → xs ≡ []
no_items [] e = refl
no_items (x ∷ xs) e = absurd (omega arith)

pub get_there : {X : Type 0} (xs : List X) (k : ℕ) (d : X) → k < length xs → get_elem? xs k ≡ some (get_or xs k d)
get_there [] k d lt = absurd (omega arith)
get_there (x ∷ xs) zero d lt = refl
get_there (x ∷ xs) (suc k) d lt = get_there xs k d (omega arith)

pub take_at : {X : Type 0} (xs : List X) (k : ℕ) (x : X) → get_elem? xs k ≡ some x → take (suc k) xs ≡ take k xs ++ x ∷ []
take_at [] k x at = absurd (some-ne-none x (sym at))
take_at (y ∷ ys) zero x at = ap (λ z. z ∷ []) (some-injective y x at)
take_at (y ∷ ys) (suc k) x at = ap (λ l. y ∷ l) (take_at ys k x at)

-- an element that was read
pub each_or : {X : Type 0} (P : X → Type 0) (xs : List X) (i : ℕ) (x : X) → i < length xs → x ≡ get_or xs i x → Each P xs → P x
each_or P [] i x lt e h = absurd (omega arith)
each_or P (y ∷ ys) zero x lt e h = subst P (sym e) h.0
each_or P (y ∷ ys) (suc i) x lt e h = each_or P ys i x (omega arith) e h.1

-- R holds of the elements of two lists, place by place
abbrev pub Along : {X : Type 0} → (X → X → Type 0) → List X → List X → Type 0
Along R [] [] = Unit {0}
Along R [] (y ∷ ys) = ⊥
Along R (x ∷ xs) [] = ⊥
Along R (x ∷ xs) (y ∷ ys) = R x y × Along R xs ys

pub along_or : {X : Type 0} (R : X → X → Type 0) (xs ys : List X) → length ys ≡ length xs → ((i : ℕ) (d : X) → i < length xs → R (get_or xs i d) (get_or ys i d)) → Along R xs ys
along_or R [] [] e f = tt
along_or R [] (y ∷ ys) e f = absurd (omega arith)
along_or R (x ∷ xs) [] e f = absurd (omega arith)
along_or R (x ∷ xs) (y ∷ ys) e f = (f 0 x (omega arith), along_or R xs ys (omega arith) (λ i d lt. f (suc i) d (omega arith)))

pub take_all : {X : Type 0} (xs : List X) (k : ℕ) → length xs ≤ k → take k xs ≡ xs
take_all [] zero l = refl
take_all [] (suc k) l = refl
take_all (x ∷ xs) zero l = absurd (omega arith)
take_all (x ∷ xs) (suc k) l = ap (λ ys. x ∷ ys) (take_all xs k (omega arith))
