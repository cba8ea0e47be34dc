-- Names of pins and their places.
use Rattle.std.proofs.Common.{◌≡◌, ℕ, zero, suc, ◌+◌, ◌<◌, ◌≤◌, ◌==◌, List, [], ◌∷◌, length, Bool, true, false, cond, Option, Some, None, refl, ap, ◌∙◌, inl, inr, arith}
use Rattle.std.specs.Prelude.{nat_lt, position, slice_get}
use Rattle.std.specs.List.{position_or_len}
use Rattle.std.specs.Option.{option_map_or}
use Rattle.std.specs.Str.{bytes_eq}
use Rattle.std.proofs.lemmas.Bool.Decides.{nat_tests}
use Rattle.std.proofs.lemmas.List.Quantifiers.{position-Some}
use Rattle.std.proofs.lemmas.Option.{slice_get-get_or}
use Rattle.std.proofs.lemmas.Slice.Eq.{bytes_eq-Decides}
use Rattle.res_base.specs.Lists.{Member, Pairwise}
use Rattle.res_base.proofs.ListLemmas.{each_in}
use Rattle.res_base.proofs.SumLemmas.{bool_cases}
use Rattle.res_model.specs.PinNames.{place, spot}
use Rattle.res_model.specs.Valid.{ArePins, AreTwoPins, IsPin}
use Rattle.res_model.specs.declared.table.Pin.{Pin}
use Rattle.res_model.specs.declared.table.TableParts.{TableParts}
use Rattle.ioc_write.specs.WriteBack.{pin_name}

abbrev next : Option ℕ → Option ℕ
next None = None
next (Some n) = Some (suc n)

-- the first index at which p passes, by recursion
abbrev first : {X : Type 0} → (X → Bool) → List X → Option ℕ
first p [] = None
first p (x ∷ xs) = cond (p x) (Some 0) (next (first p xs))

next_cond : (b : Bool) (n : ℕ) → cond b (Some (suc n)) None ≡ next (cond b (Some n) None)
next_cond true n = refl
next_cond false n = refl

one_more : (n : ℕ) → 1 + n ≡ suc n
one_more n = omega arith

lt_zero : (n : ℕ) → nat_lt 0 (suc n) ≡ true
lt_zero n = grind (arith, nat_tests)

lt_next : (n m : ℕ) → nat_lt (suc n) (suc m) ≡ nat_lt n m
lt_next n m = elim (bool_cases (nat_lt n m)) [
  | inl e ↦ let l : n < m = grind (arith, nat_tests) in rw e (grind (arith, nat_tests))
  | inr e ↦ let l : m ≤ n = grind (arith, nat_tests) in rw e (grind (arith, nat_tests))
]

position_first : {X : Type 0} (p : X → Bool) (xs : List X) → position p xs ≡ first p xs
position_first p [] = refl
position_first p (x ∷ xs) = elim (bool_cases (p x)) [
  | inl e ↦ rw (e, lt_zero (length xs)) refl
  | inr e ↦ rw (e, one_more (position_or_len p xs), lt_next (position_or_len p xs) (length xs)) (next_cond (nat_lt (position_or_len p xs) (length xs)) (position_or_len p xs) ∙ ap next (position_first p xs))
]

-- ---- a pin by its place

pub get_member : {X : Type 0} (xs : List X) (k : ℕ) (x : X) → slice_get xs k ≡ Some x → Member x xs
get_member [] k x e = absurd cc
get_member (y ∷ ys) zero x e = let same : x ≡ y = cc in inl same
get_member (y ∷ ys) (suc k) x e = inr (get_member ys k x e)

pub get_some : {X : Type 0} (xs : List X) (k : ℕ) → k < length xs → (x : X) × (slice_get xs k ≡ Some x)
get_some [] k l = absurd (omega arith)
get_some (x ∷ xs) zero l = (x, refl)
get_some (x ∷ xs) (suc k) l = get_some xs k (omega arith)

first_at : (ps : List Pin) (k : ℕ) (x : Pin) → Pairwise AreTwoPins ps → slice_get ps k ≡ Some x → first (λ (p : Pin). bytes_eq p.name x.name) ps ≡ Some k
first_at [] k x d e = absurd cc
first_at (p ∷ ps) zero x d e =
    let same : p ≡ x = cc in
    let yes : bytes_eq p.name x.name ≡ true = (bytes_eq-Decides p.name x.name).1 (ap (λ (y : Pin). y.name) same) in
    rw yes refl
first_at (p ∷ ps) (suc k) x d e =
    let two = each_in (AreTwoPins p) x ps d.0 (get_member ps k x e) in
    let r = first_at ps k x d.1 e in
    elim (bool_cases (bytes_eq p.name x.name)) [
      | inl y ↦ absurd (two.names ((bytes_eq-Decides p.name x.name).0 y))
      | inr n ↦ rw (n, r) refl
    ]

module _ (t : TableParts) (are : ArePins t.pins) where
  pub record NamedPin (k : ℕ) : Type 0 where
    pub pin : Pin
    pub at : slice_get t.pins k ≡ Some pin
    pub name : pin_name t k ≡ pin.name
    pub is : IsPin pin

  pub pin_at : (k : ℕ) → k < length t.pins → NamedPin k
  pin_at k l =
      let r = get_some t.pins k l in
      record { pin = r.0; at = r.1; name = ap (λ (o : Option Pin). option_map_or (λ (p : Pin). p.name) o []) r.1; is = each_in IsPin r.0 t.pins are.each (get_member t.pins k r.0 r.1) }

  -- a pin's name has the pin's place
  pub name_place : (k : ℕ) → k < length t.pins → place t.pins (pin_name t k) ≡ Some k
  unfolding place
  name_place k l =
      let r = pin_at k l in
      ap (place t.pins) r.name ∙ position_first (λ (p : Pin). bytes_eq p.name r.pin.name) t.pins ∙ first_at t.pins k r.pin are.differ r.at

  -- and the place of a name is that of a pin with the name
  pub place_name : (name : List ℕ) (k : ℕ) → place t.pins name ≡ Some k → (pin_name t k ≡ name) × (k < length t.pins)
  unfolding place
  place_name name k e =
      let d : Pin = record { name = []; port = 0; number = 0 } in
      let r = position-Some (λ (p : Pin). bytes_eq p.name name) t.pins k d e in
      (ap (λ (o : Option Pin). option_map_or (λ (p : Pin). p.name) o []) (slice_get-get_or t.pins k d r.0) ∙ (bytes_eq-Decides _ name).0 r.1, r.0)

  first_byte : (name : List ℕ) (port number : ℕ) → spot name ≡ Some (port, number) → (bs : List ℕ) × (name ≡ 80 ∷ bs)
  unfolding spot
  first_byte [] port number e = absurd cc
  first_byte (a ∷ []) port number e = absurd cc
  first_byte (a ∷ letter ∷ bs) port number e = elim (bool_cases (a == 80)) [
    | inl y ↦ let is : a ≡ 80 = grind (arith, nat_tests) in (letter ∷ bs, ap (λ (n : ℕ). n ∷ letter ∷ bs) is)
    | inr n ↦ let f : (let o : Option (ℕ × ℕ) = None in o) ≡ Some (port, number) = rw n at e in absurd cc
  ]

  -- a pin's name begins with P
  pub begins_with_p : (k : ℕ) → k < length t.pins → (bs : List ℕ) × (pin_name t k ≡ 80 ∷ bs)
  begins_with_p k l =
      let r = pin_at k l in
      let b = first_byte r.pin.name r.pin.port r.pin.number r.is.named in
      (b.0, r.name ∙ b.1)
