-- A pin is found by its name where it is found by its port and number.
use Rattle.std.proofs.Common.{◌≡◌, ℕ, zero, suc, ◌+◌, ◌*◌, ◌<◌, ◌≤◌, List, [], ◌∷◌, length, Bool, true, false, Option, Some, None, cond, refl, sym, ap, ◌∙◌, inl, inr, ◌⊎◌, arith}
use Rattle.std.specs.Prelude.{nat_lt, position, slice_get, slice_index_or}
use Rattle.std.specs.List.{position_or_len}
use Rattle.std.specs.Str.{bytes_eq}
use Rattle.std.proofs.lemmas.Bool.Decides.{nat_tests}
use Rattle.std.proofs.lemmas.Slice.Eq.{bytes_eq-Decides}
use Rattle.res_base.proofs.SumLemmas.{bool_cases}
use Rattle.res_base.specs.Lists.{Each, Pairwise}
use Rattle.res_model.specs.PinNames.{place, spot}
use Rattle.res_model.specs.Valid.{ArePins, AreTwoPins, IsPin}
use Rattle.res_model.specs.declared.table.Pin.{Pin}
use Rattle.ioc_write.specs.Plans.{AreSpots, is_there, is_named, has_name}

abbrev pub next : Option ℕ → Option ℕ
next None = None
next (Some n) = Some (suc n)

-- the first index at which p passes, by recursion
abbrev pub first : {X : Type 0} → (X → Bool) → List X → Option ℕ
first p [] = None
first p (x ∷ xs) = cond (p x) (Some 0) (next (first p xs))

next_cond : (b : Bool) (n : ℕ) → cond b (Some (suc n)) None ≡ next (cond b (Some n) None)
next_cond true n = refl
next_cond false n = refl

one_more : (n : ℕ) → 1 + n ≡ suc n
one_more n = omega arith

lt_zero : (n : ℕ) → nat_lt 0 (suc n) ≡ true
lt_zero n = grind (arith, nat_tests)

lt_next : (n m : ℕ) → nat_lt (suc n) (suc m) ≡ nat_lt n m
lt_next n m = elim (bool_cases (nat_lt n m)) [
  | inl e ↦ let l : n < m = grind (arith, nat_tests) in rw e (grind (arith, nat_tests))
  | inr e ↦ let l : m ≤ n = grind (arith, nat_tests) in rw e (grind (arith, nat_tests))
]

position_first : {X : Type 0} (p : X → Bool) (xs : List X) → position p xs ≡ first p xs
position_first p [] = refl
position_first p (x ∷ xs) = elim (bool_cases (p x)) [
  | inl e ↦ rw (e, lt_zero (length xs)) refl
  | inr e ↦ rw (e, one_more (position_or_len p xs), lt_next (position_or_len p xs) (length xs)) (next_cond (nat_lt (position_or_len p xs) (length xs)) (position_or_len p xs) ∙ ap next (position_first p xs))
]

none_first : {X : Type 0} (p : X → Bool) (xs : List X) → Each (λ x. p x ≡ false) xs → first p xs ≡ None
none_first p [] h = refl
none_first p (x ∷ xs) h = rw h.0 (ap next (none_first p xs h.1))

abbrev pub holds : {X : Type 0} → (X → Bool) → Option X → Bool
holds p None = false
holds p (Some x) = p x

abbrev pub picked : {X : Type 0} → (X → Bool) → List X → Option ℕ → Option ℕ
picked p xs None = None
picked p xs (Some i) = cond (holds p (slice_get xs i)) (Some i) None

picked_next : {X : Type 0} (p : X → Bool) (x : X) (xs : List X) (o : Option ℕ) → picked p (x ∷ xs) (next o) ≡ next (picked p xs o)
picked_next p x xs None = refl
picked_next p x xs (Some i) = next_cond (holds p (slice_get xs i)) i

-- what passes g passes f, and no two pass f
module _ {X : Type 0} (f g : X → Bool) where
  fails : (x : X) → (g x ≡ true → f x ≡ true) → f x ≡ false → g x ≡ false
  fails x i n = elim (bool_cases (g x)) [ inl e ↦ let t : f x ≡ true = i e in absurd cc | inr e ↦ e ]

  apart : (x : X) (xs : List X) → f x ≡ true → Each (λ y. g y ≡ true → f y ≡ true) xs → Each (λ y. f x ≡ true → f y ≡ true → ⊥) xs → Each (λ y. g y ≡ false) xs
  apart x [] t i n = tt
  apart x (y ∷ ys) t i n = (elim (bool_cases (g y)) [ inl e ↦ absurd (n.0 t (i.0 e)) | inr e ↦ e ], apart x ys t i.1 n.1)

  first_by : (xs : List X) → Each (λ x. g x ≡ true → f x ≡ true) xs → Pairwise (λ x y. f x ≡ true → f y ≡ true → ⊥) xs → first g xs ≡ picked g xs (first f xs)
  first_by [] i n = refl
  first_by (x ∷ xs) i n = elim (bool_cases (f x)) [
    | inl t ↦ rw (t, none_first g xs (apart x xs t i.1 n.0)) refl
    | inr t ↦ rw (t, fails x i.0 t) (ap next (first_by xs i.1 n.1) ∙ sym (picked_next g x xs (first f xs)))
  ]

each_of : {X : Type 0} (P Q : X → Type 0) (xs : List X) → ((x : X) → P x → Q x) → Each P xs → Each Q xs
each_of P Q [] f h = tt
each_of P Q (x ∷ xs) f h = (f x h.0, each_of P Q xs f h.1)

each_both : {X : Type 0} (P Q R : X → Type 0) (xs : List X) → ((x : X) → P x → Q x → R x) → Each P xs → Each Q xs → Each R xs
each_both P Q R [] f h k = tt
each_both P Q R (x ∷ xs) f h k = (f x h.0 k.0, each_both P Q R xs f h.1 k.1)

pairs_of : {X : Type 0} (P : X → Type 0) (R S : X → X → Type 0) (xs : List X) → ((x y : X) → P x → P y → R x y → S x y) → Each P xs → Pairwise R xs → Pairwise S xs
pairs_of P R S [] f h k = tt
pairs_of P R S (x ∷ xs) f h k = (each_both P (R x) (S x) xs (λ y p r. f x y h.0 p r) h.1 k.0, pairs_of P R S xs f h.1 k.1)

same_name : (a b : List ℕ) → bytes_eq a b ≡ true → a ≡ b
same_name a b t = (bytes_eq-Decides a b).0 t

left : Option (ℕ × ℕ) → ℕ
left None = 0
left (Some p) = p.0

right : Option (ℕ × ℕ) → ℕ
right None = 0
right (Some p) = p.1

some_pair : (a b c d : ℕ) → ◌≡◌ {A = Option (ℕ × ℕ)} (Some (a, b)) (Some (c, d)) → (a ≡ c) × (b ≡ d)
unfolding left right
some_pair a b c d e = (ap left e, ap right e)

some_none : (a b : ℕ) → ◌≡◌ {A = Option (ℕ × ℕ)} (Some (a, b)) None → ⊥
some_none a b e = absurd cc

there_by : (p : Pin) (port number : ℕ) → p.port ≡ port → p.number ≡ number → is_there (port * 16 + number) p ≡ true
there_by p port number a b = grind (arith, nat_tests)

there : (p : Pin) (s : ℕ) → is_there s p ≡ true → p.port * 16 + p.number ≡ s
there p s t = grind (arith, nat_tests)

not_there : (p : Pin) (s : ℕ) → p.port < 9 → p.number < 16 → 144 ≤ s → is_there s p ≡ false
not_there p s a b h = grind (arith, nat_tests)

module _ (pins : List Pin) (are : ArePins pins) (name : List ℕ) where
  abbrev pub named : Pin → Bool
  named p = bytes_eq p.name name

  by_position : place pins name ≡ first named pins
  unfolding place
  by_position = position_first (λ (p : Pin). bytes_eq p.name name) pins

  -- a name that tells no port and number is no pin's
  pub no_spot : spot name ≡ None → place pins name ≡ None
  no_spot e = by_position ∙ none_first named pins (each_of IsPin (λ (p : Pin). named p ≡ false) pins (λ p is. elim (bool_cases (named p)) [
    | inl t ↦ absurd (some_none p.port p.number (sym is.named ∙ ap spot (same_name p.name name t) ∙ e))
    | inr t ↦ t
  ]) are.each)

  module _ (port number : ℕ) (e : spot name ≡ Some (port, number)) where
    told : place pins name ≡ picked named pins (first (is_there (port * 16 + number)) pins)
    told = by_position ∙ first_by (is_there (port * 16 + number)) named pins
        (each_of IsPin (λ (p : Pin). named p ≡ true → is_there (port * 16 + number) p ≡ true) pins (λ p is t.
        let same = some_pair p.port p.number port number (sym is.named ∙ ap spot (same_name p.name name t) ∙ e) in
        there_by p port number same.0 same.1) are.each)
        (pairs_of IsPin AreTwoPins (λ (p q : Pin). is_there (port * 16 + number) p ≡ true → is_there (port * 16 + number) q ≡ true → ⊥) pins (λ p q ip iq two tp tq.
        let a = there p (port * 16 + number) tp in
        let b = there q (port * 16 + number) tq in
        let small_p = ip.on_port.number in
        let small_q = iq.on_port.number in
        two.places (omega arith) (omega arith)) are.each are.differ)

    spot_first : (spots : List (Option ℕ)) → AreSpots pins spots 144 → slice_index_or spots (port * 16 + number) None ≡ first (is_there (port * 16 + number)) pins
    spot_first spots s = elim (split (port * 16 + number)) [
      | inl lt ↦ s.each (port * 16 + number) lt ∙ position_first (is_there (port * 16 + number)) pins
      | inr past ↦ beyond spots (port * 16 + number) (omega (arith, s.long)) ∙ sym (none_first (is_there (port * 16 + number)) pins (each_of IsPin (λ (p : Pin). is_there (port * 16 + number) p ≡ false) pins (λ p is. not_there p (port * 16 + number) is.on_port.port is.on_port.number past) are.each))
    ]
      where
        split : (n : ℕ) → (n < 144) ⊎ (144 ≤ n)
        split n = grind (arith, nat_tests)

        beyond : (xs : List (Option ℕ)) (n : ℕ) → length xs ≤ n → slice_index_or xs n None ≡ None
        beyond [] n l = refl
        beyond (x ∷ xs) zero l = absurd (omega arith)
        beyond (x ∷ xs) (suc n) l = beyond xs n (omega arith)

    module _ (spots : List (Option ℕ)) (are_spots : AreSpots pins spots 144) where
      pub nothing_there : slice_index_or spots (port * 16 + number) None ≡ None → place pins name ≡ None
      nothing_there n = told ∙ ap (picked named pins) (sym (spot_first spots are_spots) ∙ n)

      one_there : (k : ℕ) → slice_index_or spots (port * 16 + number) None ≡ Some k → place pins name ≡ picked named pins (Some k)
      one_there k n = told ∙ ap (picked named pins) (sym (spot_first spots are_spots) ∙ n)

      holds_name : (o : Option Pin) → holds named o ≡ has_name o name
      holds_name None = refl
      holds_name (Some p) = refl

      pub found_there : (k : ℕ) → slice_index_or spots (port * 16 + number) None ≡ Some k → is_named pins k name ≡ true → place pins name ≡ Some k
      found_there k n t = one_there k n ∙ rw (holds_name (slice_get pins k), t) refl

      pub other_there : (k : ℕ) → slice_index_or spots (port * 16 + number) None ≡ Some k → is_named pins k name ≡ false → place pins name ≡ None
      other_there k n t = one_there k n ∙ rw (holds_name (slice_get pins k), t) refl

pub named_within : (pins : List Pin) (k : ℕ) (name : List ℕ) → is_named pins k name ≡ true → k < length pins
named_within [] k name t = absurd cc
named_within (p ∷ ps) zero name t = omega arith
named_within (p ∷ ps) (suc k) name t = omega (arith, named_within ps k name t)
