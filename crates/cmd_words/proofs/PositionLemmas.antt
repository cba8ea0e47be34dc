-- How many words stand before the first of an option, of words seen as bytes.
use Rattle.std.proofs.Common.{◌≡◌, ℕ, suc, ◌+◌, ◌<◌, ◌≤◌, List, [], ◌∷◌, Bool, true, false, cond, length, Option, Some, None, map, not, refl, subst, sym, ap, ◌∙◌, arith}
use Rattle.std.specs.Prelude.{nat_lt, unwrap_or}
use Rattle.std.specs.List.{position, position_or_len, prefix_len}
use Rattle.std.proofs.lemmas.List.Sums.{prefix_len-le-length}
use Rattle.std.proofs.lemmas.Bool.Decides.{nat_tests}

-- the prefix of an image is as long as that of the list
prefix_of_map : {X Y : Type 0} (p : Y → Bool) (f : X → Y) (xs : List X) → prefix_len p (map f xs) ≡ prefix_len (λ x. p (f x)) xs
prefix_of_map p f [] = refl
prefix_of_map p f (x ∷ xs) = ap (λ n. cond (p (f x)) (1 + n) 0) (prefix_of_map p f xs)

-- the first place, or the length where there is none
counted : (k n : ℕ) → k ≤ n → unwrap_or (cond (nat_lt k n) (Some k) None) n ≡ k
counted k n l = by_test (nat_lt k n) refl
  where
    by_test : (b : Bool) → nat_lt k n ≡ b → unwrap_or (cond b (Some k) None) n ≡ k
    by_test true e = refl
    by_test false e = let m : n ≤ k = grind (arith, nat_tests, e) in omega (arith, l, m)

pub first_or_length : {X Y : Type 0} (p : Y → Bool) (f : X → Y) (xs : List X) → unwrap_or (position (λ x. p (f x)) xs) (length xs) ≡ position_or_len p (map f xs)
first_or_length p f xs =
    counted (position_or_len (λ x. p (f x)) xs) (length xs) (prefix_len-le-length (λ x. not (p (f x))) xs) ∙ sym (prefix_of_map (λ y. not (p y)) f xs)

pub few_before : {X Y : Type 0} (p : Y → Bool) (f : X → Y) (xs : List X) → position_or_len p (map f xs) ≤ length xs
few_before p f xs = subst (λ n. n ≤ length xs) (sym (prefix_of_map (λ y. not (p y)) f xs)) (prefix_len-le-length (λ x. not (p (f x))) xs)
