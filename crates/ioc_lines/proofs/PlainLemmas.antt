-- Bytes that are written as they are, and bytes that print.
use Rattle.std.proofs.Common.{◌≡◌, ◌⊎◌, ℕ, suc, ◌+◌, ◌%◌, ◌^◌, ◌<◌, ◌≤◌, ◌==◌, ◌&&◌, ◌||◌, List, [], ◌∷◌, ◌++◌, length, Bool, true, false, not, refl, sym, ap, ◌∙◌, subst, inl, inr, append_assoc, length-append, arith}
use Rattle.std.specs.Prelude.{decimal, nat_le}
use Rattle.std.specs.List.{list_all}
use Rattle.std.proofs.lemmas.Bool.Decides.{nat_tests}
use Rattle.std.proofs.lemmas.Fmt.{decimal_by_steps}
use Rattle.res_base.specs.Lists.{Each}
use Rattle.res_base.proofs.SumLemmas.{bool_cases}
use Rattle.res_model.specs.Valid.{IsPrinting}
use Rattle.ioc_lines.specs.Lines.{IsClean, escaped, escaped_byte, is_special, last_of}
use Rattle.ioc_lines.proofs.TextCuts.{each_append}

-- it prints, and stands for itself
abbrev pub is_plain : ℕ → Bool
is_plain b = nat_le 33 b && nat_le b 126 && not (is_special b)

abbrev pub IsPlain : List ℕ → Type 0
IsPlain bs = Each (λ (b : ℕ). is_plain b ≡ true) bs

and_both : (a b : Bool) → a && b ≡ true → (a ≡ true) × (b ≡ true)
and_both true b e = (refl, e)
and_both false b e = absurd cc

pub all_plain : (bs : List ℕ) → list_all is_plain bs ≡ true → IsPlain bs
all_plain [] e = tt
all_plain (b ∷ bs) e = let h = and_both (is_plain b) (list_all is_plain bs) e in (h.0, all_plain bs h.1)

pub plain_append : (xs ys : List ℕ) → IsPlain xs → IsPlain ys → IsPlain (xs ++ ys)
plain_append xs ys h k = each_append (λ (b : ℕ). is_plain b ≡ true) xs ys h k

not_true : (b : Bool) → not b ≡ true → b ≡ false
not_true true e = absurd cc
not_true false e = refl

byte_plain : (b : ℕ) → is_plain b ≡ true → IsPrinting b × (is_special b ≡ false)
byte_plain b e =
    let h = and_both (nat_le 33 b && nat_le b 126) (not (is_special b)) e in
    let k = and_both (nat_le 33 b) (nat_le b 126) h.0 in
    let low : nat_le 33 b ≡ true = k.0 in
    let high : nat_le b 126 ≡ true = k.1 in
    ((grind (arith, nat_tests), grind (arith, nat_tests)), not_true (is_special b) h.1)

pub plain_same : (bs : List ℕ) → IsPlain bs → escaped bs ≡ bs
unfolding escaped
plain_same [] h = refl
plain_same (b ∷ bs) h = rw (byte_plain b h.0).1 (ap (λ (x : List ℕ). b ∷ x) (plain_same bs h.1))

pub plain_print : (bs : List ℕ) → IsPlain bs → Each IsPrinting bs
plain_print [] h = tt
plain_print (b ∷ bs) h = ((byte_plain b h.0).0, plain_print bs h.1)

pub escaped_print : (bs : List ℕ) → Each IsPrinting bs → Each IsPrinting (escaped bs)
unfolding escaped
escaped_print [] h = tt
escaped_print (b ∷ bs) h = elim (bool_cases (is_special b)) [
  | inl t ↦ rw t ((omega arith, omega arith), (h.0, escaped_print bs h.1))
  | inr t ↦ rw t (h.0, escaped_print bs h.1)
]

pub print_clean : (bs : List ℕ) → Each IsPrinting bs → IsClean bs
print_clean [] h = tt
print_clean (b ∷ bs) h = ((let low : 33 ≤ b = h.0.0 in grind (arith, nat_tests)), print_clean bs h.1)

pub print_last : (b : ℕ) (bs : List ℕ) → Each IsPrinting (b ∷ bs) → (last_of (b ∷ bs) == 13) ≡ false
unfolding last_of
print_last b [] h = let low : 33 ≤ b = h.0.0 in grind (arith, nat_tests)
print_last b (c ∷ bs) h = print_last c bs h.1

pub escaped_append : (xs ys : List ℕ) → escaped (xs ++ ys) ≡ escaped xs ++ escaped ys
unfolding escaped
escaped_append [] ys = refl
escaped_append (b ∷ bs) ys = ap (λ (x : List ℕ). escaped_byte b ++ x) (escaped_append bs ys) ∙ sym (append_assoc (escaped_byte b) (escaped bs) (escaped ys))

pub escaped_long : (bs : List ℕ) → length (escaped bs) ≤ length bs + length bs
unfolding escaped
escaped_long [] = omega arith
escaped_long (b ∷ bs) = elim (bool_cases (is_special b)) [
  | inl t ↦ rw t (let l = escaped_long bs in omega (arith, l))
  | inr t ↦ rw t (let l = escaped_long bs in omega (arith, l))
]

-- what is escaped has a first byte where the name has one
pub escaped_some : (b : ℕ) (bs : List ℕ) → (c : ℕ) × (cs : List ℕ) × (escaped (b ∷ bs) ≡ c ∷ cs)
unfolding escaped
escaped_some b bs = elim (bool_cases (is_special b)) [
  | inl t ↦ (92, b ∷ escaped bs, rw t refl)
  | inr t ↦ (b, escaped bs, rw t refl)
]

digit_plain : (b : ℕ) → 48 ≤ b → b ≤ 57 → is_plain b ≡ true
digit_plain b l h =
    let low : nat_le 33 b ≡ true = grind (arith, nat_tests) in
    let high : nat_le b 126 ≡ true = grind (arith, nat_tests) in
    let n1 : (b == 92) ≡ false = grind (arith, nat_tests) in
    let n2 : (b == 58) ≡ false = grind (arith, nat_tests) in
    let n3 : (b == 61) ≡ false = grind (arith, nat_tests) in
    let n4 : (b == 35) ≡ false = grind (arith, nat_tests) in
    let n5 : (b == 33) ≡ false = grind (arith, nat_tests) in
    rw (low, high, n1, n2, n3, n4, n5) refl

pub decimal_plain : (n : ℕ) → n < 2 ^ 64 → IsPlain (decimal n)
decimal_plain = decimal_by_steps (λ m ds. IsPlain ds) (λ m l. (digit_plain (48 + m) (omega arith) (omega arith), tt))
    (λ m ds l h. plain_append ds ((48 + m % 10) ∷ []) h (digit_plain (48 + m % 10) (omega arith) (omega arith), tt))
