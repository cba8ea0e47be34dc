-- Keys of pins: the part before the last dot, and what stands from there on.
use Rattle.std.proofs.Common.{◌≡◌, ◌≢◌, ℕ, suc, ◌+◌, ◌-◌, ◌<◌, ◌==◌, ◌||◌, List, [], ◌∷◌, ◌++◌, length, take, drop, Bool, true, false, cond, Option, Some, None, refl, sym, ap, ◌∙◌, subst, inl, inr, length-append, arith}
use Rattle.std.specs.Prelude.{codes, is_some, nat_eq}
use Rattle.std.specs.List.{ends_with, starts_with}
use Rattle.std.specs.Str.{bytes_eq}
use Rattle.std.proofs.lemmas.Bool.Decides.{nat_tests}
use Rattle.std.proofs.lemmas.List.{take-append-drop, take_at, drop_at}
use Rattle.std.proofs.lemmas.Slice.Eq.{bytes_eq-Decides}
use Rattle.res_base.proofs.SumLemmas.{bool_cases}
use Rattle.ioc_text.specs.Lines.{is_clock_key, is_named, is_pin_key, is_single_key, pin_number}
use Rattle.ioc_lines.specs.Lines.{first_or_later, prefix_to, is_suffix, last_dot, pin_part, rest_from}

-- ---- the last dot

-- what stands from the last dot on
pub record FromDot (key : List ℕ) (dot : ℕ) : Type 0 where
  pub rest : List ℕ
  pub is : drop dot key ≡ 46 ∷ rest
  pub none : last_dot rest ≡ None

dot_by : (b : ℕ) (bs : List ℕ) (dot : ℕ) → ((d : ℕ) → last_dot bs ≡ Some d → FromDot bs d) → (o : Option ℕ) → last_dot bs ≡ o → first_or_later b o ≡ Some dot → FromDot (b ∷ bs) dot
dot_by b bs dot more (Some d) q f =
    let same : 1 + d ≡ dot = cc in
    let next : dot ≡ suc d = omega (arith, same) in
    let r = more d q in
    record { rest = r.rest; is = ap (λ (n : ℕ). drop n (b ∷ bs)) next ∙ r.is; none = r.none }
dot_by b bs dot more None q f = elim (bool_cases (b == 46)) [
  | inl t ↦
      let g : Some 0 ≡ Some dot = rw t at f in
      let zero_dot : 0 ≡ dot = cc in
      let is46 : b ≡ 46 = grind (arith, nat_tests) in
      record { rest = bs; is = ap (λ (n : ℕ). drop n (b ∷ bs)) (sym zero_dot) ∙ ap (λ (n : ℕ). n ∷ bs) is46; none = q }
  | inr t ↦ let g : (let x : Option ℕ = None in x) ≡ Some dot = rw t at f in absurd cc
]

from_dot : (key : List ℕ) (dot : ℕ) → last_dot key ≡ Some dot → FromDot key dot
from_dot [] dot e = absurd cc
from_dot (b ∷ bs) dot e = dot_by b bs dot (λ d q. from_dot bs d q) (last_dot bs) refl e

pub with_dot : (prefix rest : List ℕ) → last_dot rest ≡ None → last_dot (prefix ++ 46 ∷ rest) ≡ Some (length prefix)
with_dot [] rest n = rw n refl
with_dot (b ∷ bs) rest n = rw (with_dot bs rest n) (ap Some (omega arith))

pub part_is : (prefix rest : List ℕ) → last_dot rest ≡ None → pin_part (prefix ++ 46 ∷ rest) ≡ prefix
unfolding pin_part
part_is prefix rest n = ap (prefix_to (prefix ++ 46 ∷ rest)) (with_dot prefix rest n) ∙ take_at prefix (46 ∷ rest) (length prefix) refl

pub rest_is : (prefix rest : List ℕ) → last_dot rest ≡ None → rest_from (prefix ++ 46 ∷ rest) (last_dot (prefix ++ 46 ∷ rest)) ≡ 46 ∷ rest
rest_is prefix rest n = ap (rest_from (prefix ++ 46 ∷ rest)) (with_dot prefix rest n) ∙ drop_at prefix (46 ∷ rest) (length prefix) refl

-- a key with a dot
pub record IsDotted (key : List ℕ) : Type 0 where
  pub prefix : List ℕ
  pub rest : List ℕ
  pub is : key ≡ prefix ++ 46 ∷ rest
  pub none : last_dot rest ≡ None
  pub dot : last_dot key ≡ Some (length prefix)
  pub part : pin_part key ≡ prefix
  pub behind : rest_from key (last_dot key) ≡ 46 ∷ rest

pub dotted_by : (key prefix rest : List ℕ) → key ≡ prefix ++ 46 ∷ rest → last_dot rest ≡ None → IsDotted key
dotted_by key prefix rest e n = record {
  prefix = prefix;
  rest = rest;
  is = e;
  none = n;
  dot = ap last_dot e ∙ with_dot prefix rest n;
  part = ap pin_part e ∙ part_is prefix rest n;
  behind = ap (λ (x : List ℕ). rest_from x (last_dot x)) e ∙ rest_is prefix rest n;
}

pub dotted : (key : List ℕ) (dot : ℕ) → last_dot key ≡ Some dot → IsDotted key
dotted key dot e =
    let r = from_dot key dot e in
    dotted_by key (take dot key) r.rest (sym (take-append-drop dot key) ∙ ap (λ (x : List ℕ). take dot key ++ x) r.is) r.none

-- a key without a dot has no pin part
pub no_part : (key : List ℕ) → last_dot key ≡ None → pin_part key ≡ []
unfolding pin_part
no_part key e = ap (prefix_to key) e

-- one with a pin part has a dot
pub dotted_part : (key : List ℕ) (b : ℕ) (bs : List ℕ) → pin_part key ≡ b ∷ bs → IsDotted key
dotted_part key b bs e = by (last_dot key) refl
  where
    by : (o : Option ℕ) → last_dot key ≡ o → IsDotted key
    by (Some dot) q = dotted key dot q
    by None q = let f : [] ≡ b ∷ bs = sym (no_part key q) ∙ e in absurd cc

-- keys of one pin part that go on alike are the same
pub same_key : (a b : List ℕ) (x : IsDotted a) (y : IsDotted b) → x.prefix ≡ y.prefix → x.rest ≡ y.rest → a ≡ b
same_key a b x y f r = x.is ∙ ap (λ (n : List ℕ). n ++ 46 ∷ x.rest) f ∙ ap (λ (n : List ℕ). y.prefix ++ 46 ∷ n) r ∙ sym y.is

tail_same : (a b : ℕ) (xs ys : List ℕ) → a ∷ xs ≡ b ∷ ys → xs ≡ ys
tail_same a b xs ys e = cc

pub parts_same : (prefix rest other more : List ℕ) → last_dot rest ≡ None → last_dot more ≡ None → prefix ++ 46 ∷ rest ≡ other ++ 46 ∷ more → (prefix ≡ other) × (rest ≡ more)
parts_same prefix rest other more n m e = (
  sym (part_is prefix rest n) ∙ ap pin_part e ∙ part_is other more m,
  tail_same 46 46 rest more (sym (rest_is prefix rest n) ∙ ap (λ (x : List ℕ). rest_from x (last_dot x)) e ∙ rest_is other more m),
)

-- ---- which keys of pins are named

both_ways : (a b : Bool) → (a ≡ true → b ≡ true) → (b ≡ true → a ≡ true) → a ≡ b
both_ways true b f g = sym (f refl)
both_ways false true f g = g refl
both_ways false false f g = refl

ends_at : (key suffix : List ℕ) → ends_with nat_eq key suffix ≡ true → (prefix : List ℕ) × (key ≡ prefix ++ suffix)
ends_at key suffix e =
    let n = length key - length suffix in
    let same : suffix ≡ drop n key = (bytes_eq-Decides suffix (drop n key)).0 e in
    (take n key, sym (take-append-drop n key) ∙ ap (λ (x : List ℕ). take n key ++ x) (sym same))

ends_so : (prefix suffix : List ℕ) → ends_with nat_eq (prefix ++ suffix) suffix ≡ true
ends_so prefix suffix =
    let n : length (prefix ++ suffix) - length suffix ≡ length prefix = (let l = length-append prefix suffix in omega (arith, l)) in
    let same : suffix ≡ drop (length (prefix ++ suffix) - length suffix) (prefix ++ suffix) = sym (drop_at prefix suffix (length (prefix ++ suffix) - length suffix) (sym n)) in
    (bytes_eq-Decides suffix (drop (length (prefix ++ suffix) - length suffix) (prefix ++ suffix))).1 same

ends_by : (prefix rest x : List ℕ) → last_dot rest ≡ None → last_dot x ≡ None → ends_with nat_eq (prefix ++ 46 ∷ rest) (46 ∷ x) ≡ bytes_eq (46 ∷ x) (46 ∷ rest)
ends_by prefix rest x n m = both_ways (ends_with nat_eq (prefix ++ 46 ∷ rest) (46 ∷ x)) (bytes_eq (46 ∷ x) (46 ∷ rest))
    (λ e. (let r = ends_at (prefix ++ 46 ∷ rest) (46 ∷ x) e in
    let same = parts_same prefix rest r.0 x n m r.1 in
    (bytes_eq-Decides (46 ∷ x) (46 ∷ rest)).1 (ap (λ (y : List ℕ). 46 ∷ y) (sym same.1))))
    (λ e. (let same : 46 ∷ x ≡ 46 ∷ rest = (bytes_eq-Decides (46 ∷ x) (46 ∷ rest)).0 e in
    subst (λ (y : List ℕ). ends_with nat_eq (prefix ++ 46 ∷ rest) y ≡ true) (sym same) (ends_so prefix (46 ∷ rest))))

pin_key_is : (prefix rest : List ℕ) → last_dot rest ≡ None → is_pin_key (prefix ++ 46 ∷ rest) ≡ is_suffix (46 ∷ rest)
unfolding is_pin_key
pin_key_is prefix rest n =
    rw (ends_by prefix rest (codes "Signal") n refl, ends_by prefix rest (codes "Locked") n refl, ends_by prefix rest (codes "GPIO_PuPd") n refl, ends_by prefix rest (codes "GPIO_Speed") n refl) refl

or_false : (b : Bool) → b || false ≡ b
or_false true = refl
or_false false = refl

no_single : (bs : List ℕ) → is_single_key (80 ∷ bs) ≡ false
unfolding is_single_key
no_single bs = refl

no_clock : (bs : List ℕ) → is_clock_key (80 ∷ bs) ≡ false
unfolding is_clock_key
no_clock bs = refl

pub no_number : (bs : List ℕ) → pin_number (80 ∷ bs) ≡ None
unfolding pin_number
no_number bs = refl

pub no_count : (bs : List ℕ) → bytes_eq (80 ∷ bs) (codes "Mcu.PinsNb") ≡ false
no_count bs = refl

named_pin : (bs : List ℕ) → is_named (80 ∷ bs) ≡ is_pin_key (80 ∷ bs)
unfolding is_named
named_pin bs = rw (no_single bs, no_clock bs, no_number bs) (or_false (is_pin_key (80 ∷ bs)))

-- a key of a pin is named by what stands from its last dot on
pub named_by_rest : (prefix rest bs : List ℕ) → prefix ≡ 80 ∷ bs → last_dot rest ≡ None → is_named (prefix ++ 46 ∷ rest) ≡ is_suffix (46 ∷ rest)
named_by_rest prefix rest bs e n =
    ap (λ (x : List ℕ). is_named (x ++ 46 ∷ rest)) e ∙ named_pin (bs ++ 46 ∷ rest) ∙ ap (λ (x : List ℕ). is_pin_key (x ++ 46 ∷ rest)) (sym e) ∙ pin_key_is prefix rest n
