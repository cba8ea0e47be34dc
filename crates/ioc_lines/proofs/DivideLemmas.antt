-- Lines with another value, or with another pin in their key.
use Rattle.std.proofs.Common.{◌≡◌, ℕ, suc, ◌+◌, ◌==◌, List, [], ◌∷◌, ◌++◌, length, take, drop, Bool, true, false, Option, Some, None, refl, sym, ap, ◌∙◌, inl, inr, append_assoc, arith}
use Rattle.std.proofs.lemmas.Bool.Decides.{nat_tests}
use Rattle.res_base.proofs.SumLemmas.{bool_cases}
use Rattle.ioc_text.specs.Lines.{equals_at, equals_from, is_quiet, undone}
use Rattle.ioc_lines.specs.Lines.{Keyed, divided, keyed, keyed_at, with_key}
use Rattle.ioc_lines.specs.Lines.{with_value}

pub some_same : (a b : ℕ) → Some a ≡ Some b → a ≡ b
some_same a b e = cc

-- ---- where a line is divided

-- the first = outside of pairs stands behind a prefix, whatever follows
pub record Divides (p : Bool) (at : ℕ) (bytes : List ℕ) (place : ℕ) : Type 0 where
  pub prefix : List ℕ
  pub rest : List ℕ
  pub whole : bytes ≡ prefix ++ 61 ∷ rest
  pub there : at + length prefix ≡ place
  pub any : (more : List ℕ) → equals_from p at (prefix ++ 61 ∷ more) ≡ Some place

pub divides : (p : Bool) (at : ℕ) (bytes : List ℕ) (place : ℕ) → equals_from p at bytes ≡ Some place → Divides p at bytes place
unfolding equals_from
divides true at [] place e = absurd cc
divides false at [] place e = absurd cc
divides true at (b ∷ bs) place e =
    let r = divides false (at + 1) bs place e in
    record { prefix = b ∷ r.prefix; rest = r.rest; whole = ap (λ (xs : List ℕ). b ∷ xs) r.whole; there = omega (arith, r.there); any = r.any }
divides false at (b ∷ bs) place e = elim (bool_cases (b == 61)) [
  | inl t ↦
      let is : b ≡ 61 = grind (arith, nat_tests) in
      let f : Some at ≡ Some place = rw t at e in
      record { prefix = []; rest = bs; whole = ap (λ (n : ℕ). n ∷ bs) is; there = omega (arith, some_same at place f); any = λ more. f }
  | inr t ↦
      let f : equals_from (b == 92) (at + 1) bs ≡ Some place = rw t at e in
      let r = divides (b == 92) (at + 1) bs place f in
      record { prefix = b ∷ r.prefix; rest = r.rest; whole = ap (λ (xs : List ℕ). b ∷ xs) r.whole; there = omega (arith, r.there); any = λ more. rw t (r.any more) }
]

pub take_prefix : (prefix more : List ℕ) → take (length prefix) (prefix ++ more) ≡ prefix
take_prefix [] more = refl
take_prefix (b ∷ bs) more = ap (λ (xs : List ℕ). b ∷ xs) (take_prefix bs more)

take_past : (prefix : List ℕ) (x : ℕ) (more : List ℕ) → take (length prefix + 1) (prefix ++ x ∷ more) ≡ prefix ++ x ∷ []
take_past [] x more = refl
take_past (b ∷ bs) x more = rw (one_in (length bs)) (ap (λ (xs : List ℕ). b ∷ xs) (take_past bs x more))
  where
    one_in : (n : ℕ) → suc n + 1 ≡ suc (n + 1)
    one_in n = omega arith

pub drop_past : (prefix : List ℕ) (x : ℕ) (more : List ℕ) → drop (length prefix + 1) (prefix ++ x ∷ more) ≡ more
drop_past [] x more = refl
drop_past (b ∷ bs) x more = rw (one_in (length bs)) (drop_past bs x more)
  where
    one_in : (n : ℕ) → suc n + 1 ≡ suc (n + 1)
    one_in n = omega arith

same_quiet : (prefix a b : List ℕ) → is_quiet (prefix ++ 61 ∷ a) ≡ is_quiet (prefix ++ 61 ∷ b)
same_quiet [] a b = refl
same_quiet (x ∷ xs) a b = refl

-- what a line with a key is
pub record HasKey (says : List ℕ) (k : Keyed) : Type 0 where
  pub loud : is_quiet says ≡ false
  pub at : equals_at says ≡ Some k.equals
  pub read : undone (take k.equals says) ≡ Some k.key

by_key : (at : ℕ) (o : Option (List ℕ)) (k : Keyed) → with_key at o ≡ Some k → (at ≡ k.equals) × (o ≡ Some k.key)
by_key at None k e = absurd cc
by_key at (Some key) k e = (ap equals_of e, ap key_of e)
  where
    equals_of : Option Keyed → ℕ
    equals_of None = at
    equals_of (Some j) = j.equals

    key_of : Option Keyed → Option (List ℕ)
    key_of None = None
    key_of (Some j) = Some j.key

by_place : (says : List ℕ) (o : Option ℕ) (k : Keyed) → divided says o ≡ Some k → (o ≡ Some k.equals) × (undone (take k.equals says) ≡ Some k.key)
by_place says None k e = absurd cc
by_place says (Some at) k e =
    let r = by_key at (undone (take at says)) k e in
    (ap Some r.0, ap (λ (n : ℕ). undone (take n says)) (sym r.0) ∙ r.1)

pub has_key : (says : List ℕ) (k : Keyed) → keyed says ≡ Some k → HasKey says k
unfolding keyed
has_key says k e = elim (bool_cases (is_quiet says)) [
  | inl q ↦ let f : (let n : Option Keyed = None in n) ≡ Some k = rw q at e in absurd cc
  | inr q ↦
      let f : divided says (equals_at says) ≡ Some k = rw q at e in
      let r = by_place says (equals_at says) k f in
      record { loud = q; at = r.0; read = r.1 }
]

pub key_had : (says : List ℕ) (at : ℕ) (key : List ℕ) → is_quiet says ≡ false → equals_at says ≡ Some at → undone (take at says) ≡ Some key → keyed says ≡ Some (keyed_at key at)
unfolding keyed
key_had says at key q e r = rw (q, e, r) refl

module _ (says : List ℕ) (k : Keyed) (h : keyed says ≡ Some k) where
  pub has : HasKey says k
  has = has_key says k h

  pub cut : Divides false 0 says k.equals
  unfolding equals_at
  cut = divides false 0 says k.equals has.at

  pub long : length cut.prefix ≡ k.equals
  long = omega (arith, cut.there)

  up_to : take (k.equals + 1) says ≡ cut.prefix ++ 61 ∷ []
  up_to = ap (λ (n : ℕ). take (n + 1) says) (sym long) ∙ ap (take (length cut.prefix + 1)) cut.whole ∙ take_past cut.prefix 61 cut.rest

  pub prefix_is : take k.equals says ≡ cut.prefix
  prefix_is = ap (λ (n : ℕ). take n says) (sym long) ∙ ap (take (length cut.prefix)) cut.whole ∙ take_prefix cut.prefix (61 ∷ cut.rest)

  pub prefix_read : undone cut.prefix ≡ Some k.key
  prefix_read = ap undone (sym prefix_is) ∙ has.read

  module _ (value : List ℕ) where
    pub with_is : with_value says k.equals value ≡ cut.prefix ++ 61 ∷ value
    with_is = ap (λ (xs : List ℕ). xs ++ value) up_to ∙ append_assoc cut.prefix (61 ∷ []) value

    pub loud_with : is_quiet (cut.prefix ++ 61 ∷ value) ≡ false
    loud_with = same_quiet cut.prefix value cut.rest ∙ ap is_quiet (sym cut.whole) ∙ has.loud

    pub divided_with : equals_at (cut.prefix ++ 61 ∷ value) ≡ Some k.equals
    unfolding equals_at
    divided_with = cut.any value

    pub read_with : undone (take k.equals (cut.prefix ++ 61 ∷ value)) ≡ Some k.key
    read_with = ap (λ (n : ℕ). undone (take n (cut.prefix ++ 61 ∷ value))) (sym long) ∙ ap undone (take_prefix cut.prefix (61 ∷ value)) ∙ prefix_read

    pub key_stays : keyed (with_value says k.equals value) ≡ Some k
    key_stays = ap keyed with_is ∙ key_had (cut.prefix ++ 61 ∷ value) k.equals k.key loud_with divided_with read_with

    pub value_is : drop (k.equals + 1) (with_value says k.equals value) ≡ value
    value_is = ap (drop (k.equals + 1)) with_is ∙ ap (λ (n : ℕ). drop (n + 1) (cut.prefix ++ 61 ∷ value)) (sym long) ∙ drop_past cut.prefix 61 value
