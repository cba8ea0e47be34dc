-- Numbers as they are spelled.
use Rattle.std.proofs.Common.{◌≡◌, ◌≢◌, ℕ, suc, ◌+◌, ◌-◌, ◌*◌, ◌/◌, ◌%◌, ◌^◌, ◌<◌, ◌≤◌, List, [], ◌∷◌, ◌++◌, true, false, cond, eqb, ltb, length, take, drop, Option, Some, None, inl, inr, refl, sym, ap, subst, ◌∙◌, append_assoc, arith}
use Rattle.std.specs.Prelude.{decimal, position, MatchOption}
use denote.Ref.{Bor}
use Rattle.std.specs.List.{position_or_len}
use Rattle.std.proofs.lemmas.Bool.Decides.{nat_tests}
use Rattle.std.proofs.lemmas.Fmt.{decimal_by_steps, decimal_injective}
use Rattle.std.proofs.lemmas.Grind.{common_steps}
use Rattle.std.proofs.lemmas.List.{append_cancel_left}
use Rattle.std.proofs.lemmas.Nat.{div-mul-add, mod-mul-add, div-add-mod'}
use Rattle.std.proofs.Math.Nat.{div-lt_iff_lt-mul, mod-lt}
use Rattle.res_base.specs.Lists.{Each}
use Rattle.res_base.proofs.ListLemmas.{each_push, each_map}
use Rattle.res_base.proofs.SumLemmas.{bool_cases}
use Rattle.c_print.specs.declared.part.Part.{Part}
use Rattle.c_print.specs.declared.part.Part.TheVariants as part
use Rattle.c_print.specs.Text.{part_text, digit, digits_1, halves, digits_2, digits_4, digits_8, hex, number_after, count}
use Rattle.c_print.specs.Prefixes.{Begins, BeginsNone, Below, IsCount}
use Rattle.c_print.proofs.PrefixLemmas.{TellsApart, after_both, past_text, none_text, join, past, none_first}

-- ---- digits
digit_same : (n m : ℕ) → digit n ≡ digit m → n ≡ m
unfolding digit
digit_same n m e = elim (bool_cases (ltb n 10)) [
  | inl a ↦ let low : n < 10 = grind (arith, nat_tests) in elim (bool_cases (ltb m 10)) [
    | inl b ↦ let f : 48 + n ≡ 48 + m = rw (a, b) at e in omega arith
    | inr b ↦ let f : 48 + n ≡ 55 + m = rw (a, b) at e in let high : 10 ≤ m = grind (arith, nat_tests) in absurd (omega arith)
  ]
  | inr a ↦ let high : 10 ≤ n = grind (arith, nat_tests) in elim (bool_cases (ltb m 10)) [
    | inl b ↦ let f : 55 + n ≡ 48 + m = rw (a, b) at e in let low : m < 10 = grind (arith, nat_tests) in absurd (omega arith)
    | inr b ↦ let f : 55 + n ≡ 55 + m = rw (a, b) at e in omega arith
  ]
]

pub digits_1_apart : TellsApart digits_1 (Below 16)
digits_1_apart x y xs ys fx fy e =
    let z : digit x ∷ xs ≡ digit y ∷ ys = e in
    let first : digit x ≡ digit y = cc in
    let rest : xs ≡ ys = cc in
    (digit_same x y first, rest)

module _ (base : ℕ) (spell : ℕ → List ℕ) (some : 0 < base) where
  upper : (n : ℕ) → n < base * base → n / base < base
  upper n h = (div-lt_iff_lt-mul {x = n} {y = base} some).1 h

  pub halves_apart : TellsApart spell (Below base) → TellsApart (halves base spell) (Below (base * base))
  halves_apart apart x y xs ys fx fy e =
      let high = apart (x / base) (y / base) (spell (x % base) ++ xs) (spell (y % base) ++ ys) (upper x fx) (upper y fy)
      (sym (append_assoc (spell (x / base)) (spell (x % base)) xs) ∙ e ∙ append_assoc (spell (y / base)) (spell (y % base)) ys) in
      let low = apart (x % base) (y % base) xs ys (mod-lt x some) (mod-lt y some) high.1 in
      (sym (div-add-mod' x base) ∙ ap (λ k. k * base + x % base) high.0 ∙ ap (λ k. y / base * base + k) low.0 ∙ div-add-mod' y base, low.1)

  pub halves_none : (text : List ℕ) → BeginsNone spell (Below base) text → BeginsNone (halves base spell) (Below (base * base)) text
  halves_none text none x rest f e = none (x / base) (spell (x % base) ++ rest) (upper x f) (e ∙ append_assoc (spell (x / base)) (spell (x % base)) rest)

  pub halves_half : TellsApart spell (Below base) → (text : List ℕ) (high : ℕ) (more : List ℕ) → Begins spell (Below base) text high more → BeginsNone spell (Below base) more → BeginsNone (halves base spell) (Below (base * base)) text
  halves_half apart text high more b none x rest f e =
      let same = apart high (x / base) more (spell (x % base) ++ rest) b.fits (upper x f) (sym b.is ∙ e ∙ append_assoc (spell (x / base)) (spell (x % base)) rest) in
      none (x % base) rest (mod-lt x some) same.1

  pub halves_are : (text : List ℕ) (high low : ℕ) (more rest : List ℕ) → text ≡ spell high ++ more → more ≡ spell low ++ rest → low < base → text ≡ halves base spell (high * base + low) ++ rest
  halves_are text high low more rest b e l =
      join (spell high) (spell low) more rest text b e
      ∙ ap (λ k. (spell k ++ spell low) ++ rest) (sym (div-mul-add high base low l))
      ∙ ap (λ k. (spell ((high * base + low) / base) ++ spell k) ++ rest) (sym (mod-mul-add high base low l))

pub digits_2_apart : TellsApart digits_2 (Below 256)
unfolding digits_2
digits_2_apart = halves_apart 16 digits_1 (omega arith) digits_1_apart

pub digits_4_apart : TellsApart digits_4 (Below 65536)
unfolding digits_4
digits_4_apart = halves_apart 256 digits_2 (omega arith) digits_2_apart

pub digits_8_apart : TellsApart digits_8 (Below (2 ^ 32))
unfolding digits_8
digits_8_apart = halves_apart 65536 digits_4 (omega arith) digits_4_apart

-- ---- words
pub hex_apart : TellsApart hex (Below (2 ^ 32))
unfolding hex
hex_apart x y xs ys fx fy e =
    let z = part_text part.Hex in
    let u = part_text part.Unsigned in
    let digits = after_both z (digits_8 x ++ u) (digits_8 y ++ u) xs ys e in
    let both = digits_8_apart x y (u ++ xs) (u ++ ys) fx fy (sym (append_assoc (digits_8 x) u xs) ∙ digits ∙ append_assoc (digits_8 y) u ys) in
    (both.0, append_cancel_left u xs ys both.1)

pub number_apart : (before : Part) → TellsApart (number_after before) (Below (2 ^ 32))
number_apart before x y xs ys fx fy e = hex_apart x y xs ys fx fy (after_both (part_text before) (hex x) (hex y) xs ys e)

-- ---- counts
abbrev pub HasNo : ℕ → List ℕ → Type 0
HasNo byte xs = Each (λ (c : ℕ). eqb c byte ≡ false) xs

abbrev IsDecimal : ℕ → Type 0
IsDecimal c = (48 ≤ c) × (c ≤ 57)

decimals : (n : ℕ) → n < 2 ^ 64 → Each IsDecimal (decimal n)
decimals n h = decimal_by_steps (λ n ds. Each IsDecimal ds)
    (λ n l. ((omega arith, omega arith), tt))
    (λ n ds l ih. each_push IsDecimal ds (48 + n % 10) ih (omega arith, omega arith))
    n h

pub no_end : (n : ℕ) → n < 2 ^ 64 → HasNo 10 (decimal n)
no_end n h = each_map IsDecimal (λ (c : ℕ). eqb c 10 ≡ false) (decimal n) (λ c d. grind (arith, nat_tests, d.0)) (decimals n h)

no_suffix : (n : ℕ) → n < 2 ^ 64 → HasNo 117 (decimal n)
no_suffix n h = each_map IsDecimal (λ (c : ℕ). eqb c 117 ≡ false) (decimal n) (λ c d. grind (arith, nat_tests, d.1)) (decimals n h)

-- texts up to their first such byte
first_apart : (byte : ℕ) (xs ys rest more : List ℕ) → HasNo byte xs → HasNo byte ys → xs ++ byte ∷ rest ≡ ys ++ byte ∷ more → (xs ≡ ys) × (rest ≡ more)
first_apart byte [] [] rest more h k e =
    let z : byte ∷ rest ≡ byte ∷ more = e in
    let r : rest ≡ more = cc in (refl, r)
first_apart byte [] (y ∷ ys) rest more h k e =
    let z : byte ∷ rest ≡ y ∷ (ys ++ byte ∷ more) = e in
    let same : byte ≡ y = cc in absurd (differ byte y same k.0)
  where
    differ : (b y : ℕ) → b ≡ y → eqb y b ≡ false → ⊥
    differ b y s n = let t : eqb y b ≡ true = grind (arith, nat_tests) in let z : true ≡ false = sym t ∙ n in cc
first_apart byte (x ∷ xs) [] rest more h k e =
    let z : x ∷ (xs ++ byte ∷ rest) ≡ byte ∷ more = e in
    let same : x ≡ byte = cc in absurd (differ byte x same h.0)
  where
    differ : (b x : ℕ) → x ≡ b → eqb x b ≡ false → ⊥
    differ b x s n = let t : eqb x b ≡ true = grind (arith, nat_tests) in let z : true ≡ false = sym t ∙ n in cc
first_apart byte (x ∷ xs) (y ∷ ys) rest more h k e =
    let z : x ∷ (xs ++ byte ∷ rest) ≡ y ∷ (ys ++ byte ∷ more) = e in
    let first : x ≡ y = cc in
    let tail : xs ++ byte ∷ rest ≡ ys ++ byte ∷ more = cc in
    let r = first_apart byte xs ys rest more h.1 k.1 tail in
    (ap (λ c. c ∷ xs) first ∙ ap (λ cs. y ∷ cs) r.0, r.1)

-- a count, and then its u
count_is : (n : ℕ) (rest : List ℕ) → count n ++ rest ≡ decimal n ++ 117 ∷ rest
unfolding part_text
count_is n rest = append_assoc (decimal n) (117 ∷ []) rest

pub count_apart : TellsApart count IsCount
count_apart x y xs ys fx fy e =
    let both = first_apart 117 (decimal x) (decimal y) xs ys (no_suffix x (omega (arith, fx.1))) (no_suffix y (omega (arith, fy.1))) (sym (count_is x xs) ∙ e ∙ count_is y ys) in
    (decimal_injective x y (omega (arith, fx.1)) (omega (arith, fy.1)) both.0, both.1)

-- where the first such byte stands
found_place : (at len : ℕ) (i : ℕ) → cond (ltb at len) (Some at) None ≡ Some i → (at ≡ i) × (at < len)
found_place at len i e = elim (bool_cases (ltb at len)) [
  | inl t ↦ let f : Some at ≡ Some i = rw t at e in (cc, grind (arith, nat_tests))
  | inr t ↦ let f : (let n : Option ℕ = None in n) ≡ Some i = rw t at e in absurd cc
]

no_place : (at len : ℕ) → cond (ltb at len) (Some at) None ≡ None → len ≤ at
no_place at len e = elim (bool_cases (ltb at len)) [
  | inl t ↦ let f : Some at ≡ None = rw t at e in absurd cc
  | inr t ↦ grind (arith, nat_tests)
]

record Cut (byte : ℕ) (text prefix rest : List ℕ) : Type 0 where
  is : text ≡ prefix ++ byte ∷ rest
  none : HasNo byte prefix

cut_at : (byte : ℕ) (text : List ℕ) → position_or_len (λ b. eqb b byte) text < length text →
    Cut byte text (take (position_or_len (λ b. eqb b byte) text) text) (drop (position_or_len (λ b. eqb b byte) text + 1) text)
cut_at byte [] h = absurd (omega arith)
cut_at byte (c ∷ cs) h = elim (bool_cases (eqb c byte)) [
  | inl e ↦ let same : c ≡ byte = grind (arith, nat_tests) in rw e (record { is = ap (λ x. x ∷ cs) same; none = tt })
  | inr e ↦
      let n = position_or_len (λ b. eqb b byte) cs in
      let less : 1 + n < suc (length cs) = rw e at h in
      let two : 1 + n + 1 ≡ suc (n + 1) = omega arith in
      let one : 1 + n ≡ suc n = omega arith in
      let r = cut_at byte cs (omega arith) in
      rw (e, two, one) (record { is = ap (λ xs. c ∷ xs) r.is; none = (e, r.none) })
]

has_none : (byte : ℕ) (text : List ℕ) → length text ≤ position_or_len (λ b. eqb b byte) text → HasNo byte text
has_none byte [] h = tt
has_none byte (c ∷ cs) h = elim (bool_cases (eqb c byte)) [
  | inl e ↦ let none : suc (length cs) ≤ 0 = rw e at h in absurd (omega arith)
  | inr e ↦ let more : suc (length cs) ≤ 1 + position_or_len (λ b. eqb b byte) cs = rw e at h in (e, has_none byte cs (omega arith))
]

-- what is left behind a place, as a slice says it
left_is : (text : List ℕ) (i : ℕ) → take (length text - (i + 1)) (drop (i + 1) text) ≡ drop (i + 1) text
left_is text i = grind (arith, common_steps)

suffix_in : (xs rest : List ℕ) → HasNo 117 (xs ++ 117 ∷ rest) → ⊥
suffix_in [] rest h = let z : true ≡ false = h.0 in cc
suffix_in (x ∷ xs) rest h = suffix_in xs rest h.1

-- no u, so no count
pub count_none : (text : List ℕ) → position (λ b. eqb b 117) text ≡ None → BeginsNone count IsCount text
count_none text p n rest f e =
    let clean : HasNo 117 text = has_none 117 text (no_place (position_or_len (λ b. eqb b 117) text) (length text) p) in
    suffix_in (decimal n) rest (subst (HasNo 117) (e ∙ count_is n rest) clean)

module _ (text : List ℕ) (i : ℕ) (p : position (λ b. eqb b 117) text ≡ Some i) where
  cut : Cut 117 text (take i text) (drop (i + 1) text)
  cut = let found = found_place (position_or_len (λ b. eqb b 117) text) (length text) i p in subst (λ k. Cut 117 text (take k text) (drop (k + 1) text)) found.0 (cut_at 117 text found.1)

  -- a count is what stands before the u
  before_is : (n : ℕ) (rest : List ℕ) → IsCount n → text ≡ count n ++ rest → take i text ≡ decimal n
  before_is n rest f e = (first_apart 117 (take i text) (decimal n) (drop (i + 1) text) rest cut.none (no_suffix n (omega (arith, f.1))) (sym cut.is ∙ e ∙ count_is n rest)).0

  pub count_no_number : ((n : ℕ) → n < 2 ^ 64 → take i text ≢ decimal n) → BeginsNone count IsCount text
  count_no_number none n rest f e = none n (omega (arith, f.1)) (before_is n rest f e)

  pub count_other : (m : ℕ) → m < 2 ^ 64 → take i text ≡ decimal m → (IsCount m → ⊥) → BeginsNone count IsCount text
  count_other m l is other n rest f e = other (subst IsCount (sym (decimal_injective m n l (omega (arith, f.1)) (sym is ∙ before_is n rest f e))) f)

  pub count_found : (n : ℕ) → IsCount n → take i text ≡ decimal n → Begins count IsCount text n (take (length text - (i + 1)) (drop (i + 1) text))
  count_found n f is = record {
    fits = f;
    is = cut.is ∙ ap (λ ds. ds ++ 117 ∷ drop (i + 1) text) is ∙ sym (count_is n (drop (i + 1) text)) ∙ ap (λ xs. count n ++ xs) (sym (left_is text i));
  }

-- ---- what a text begins with, digit by digit
pub digits_2_none : (text : List ℕ) → BeginsNone digits_1 (Below 16) text → BeginsNone digits_2 (Below 256) text
unfolding digits_2
digits_2_none = halves_none 16 digits_1 (omega arith)

pub digits_2_half : (text : List ℕ) (high : ℕ) (more : List ℕ) → Begins digits_1 (Below 16) text high more → BeginsNone digits_1 (Below 16) more → BeginsNone digits_2 (Below 256) text
unfolding digits_2
digits_2_half = halves_half 16 digits_1 (omega arith) digits_1_apart

pub digits_2_found : (text : List ℕ) (high low : ℕ) (more rest : List ℕ) → Begins digits_1 (Below 16) text high more → Begins digits_1 (Below 16) more low rest → Begins digits_2 (Below 256) text (high * 16 + low) rest
unfolding digits_2
digits_2_found text high low more rest a b = record { fits = omega (arith, a.fits, b.fits); is = halves_are 16 digits_1 (omega arith) text high low more rest a.is b.is b.fits }

pub digits_4_none : (text : List ℕ) → BeginsNone digits_2 (Below 256) text → BeginsNone digits_4 (Below 65536) text
unfolding digits_4
digits_4_none = halves_none 256 digits_2 (omega arith)

pub digits_4_half : (text : List ℕ) (high : ℕ) (more : List ℕ) → Begins digits_2 (Below 256) text high more → BeginsNone digits_2 (Below 256) more → BeginsNone digits_4 (Below 65536) text
unfolding digits_4
digits_4_half = halves_half 256 digits_2 (omega arith) digits_2_apart

pub digits_4_found : (text : List ℕ) (high low : ℕ) (more rest : List ℕ) → Begins digits_2 (Below 256) text high more → Begins digits_2 (Below 256) more low rest → Begins digits_4 (Below 65536) text (high * 256 + low) rest
unfolding digits_4
digits_4_found text high low more rest a b = record { fits = omega (arith, a.fits, b.fits); is = halves_are 256 digits_2 (omega arith) text high low more rest a.is b.is b.fits }

pub digits_8_none : (text : List ℕ) → BeginsNone digits_4 (Below 65536) text → BeginsNone digits_8 (Below (2 ^ 32)) text
unfolding digits_8
digits_8_none = halves_none 65536 digits_4 (omega arith)

pub digits_8_half : (text : List ℕ) (high : ℕ) (more : List ℕ) → Begins digits_4 (Below 65536) text high more → BeginsNone digits_4 (Below 65536) more → BeginsNone digits_8 (Below (2 ^ 32)) text
unfolding digits_8
digits_8_half = halves_half 65536 digits_4 (omega arith) digits_4_apart

pub digits_8_found : (text : List ℕ) (high low : ℕ) (more rest : List ℕ) → Begins digits_4 (Below 65536) text high more → Begins digits_4 (Below 65536) more low rest → Begins digits_8 (Below (2 ^ 32)) text (high * 65536 + low) rest
unfolding digits_8
digits_8_found text high low more rest a b = record { fits = omega (arith, a.fits, b.fits); is = halves_are 65536 digits_4 (omega arith) text high low more rest a.is b.is b.fits }

-- ---- and word by word
pub hex_none : (text : List ℕ) → ((rest : List ℕ) → text ≢ part_text part.Hex ++ rest) → BeginsNone hex (Below (2 ^ 32)) text
unfolding hex
hex_none text none n rest f e = none_text (part_text part.Hex) (digits_8 n ++ part_text part.Unsigned) rest text none e

module _ (text first : List ℕ) (b : text ≡ part_text part.Hex ++ first) where
  digits_next : (n : ℕ) (rest : List ℕ) → text ≡ hex n ++ rest → first ≡ (digits_8 n ++ part_text part.Unsigned) ++ rest
  unfolding hex
  digits_next n rest e = past_text (part_text part.Hex) first (digits_8 n ++ part_text part.Unsigned) rest text b e

  pub hex_no_digits : BeginsNone digits_8 (Below (2 ^ 32)) first → BeginsNone hex (Below (2 ^ 32)) text
  hex_no_digits none n rest f e = none_first digits_8 (Below (2 ^ 32)) first n (part_text part.Unsigned) rest none f (digits_next n rest e)

  module _ (m : ℕ) (more : List ℕ) (d : Begins digits_8 (Below (2 ^ 32)) first m more) where
    pub hex_no_suffix : ((rest : List ℕ) → more ≢ part_text part.Unsigned ++ rest) → BeginsNone hex (Below (2 ^ 32)) text
    hex_no_suffix none n rest f e = none rest (past digits_8 (Below (2 ^ 32)) digits_8_apart first m more n (part_text part.Unsigned) rest d f (digits_next n rest e)).1

    pub hex_found : (rest : List ℕ) → more ≡ part_text part.Unsigned ++ rest → Begins hex (Below (2 ^ 32)) text m rest
    unfolding hex
    hex_found rest u = record {
      fits = d.fits;
      is = join (part_text part.Hex) (digits_8 m ++ part_text part.Unsigned) first rest text b (join (digits_8 m) (part_text part.Unsigned) more rest first d.is u);
    }

-- a word behind a text, from a word where the text ends
pub number_answer : (before : Part) (text rest : List ℕ) (o : Option (ℕ × Bor (List ℕ))) → text ≡ part_text before ++ rest →
    MatchOption o (BeginsNone hex (Below (2 ^ 32)) rest) (λ x. Begins hex (Below (2 ^ 32)) rest x.0 x.1.now) →
    MatchOption o (BeginsNone (number_after before) (Below (2 ^ 32)) text) (λ x. Begins (number_after before) (Below (2 ^ 32)) text x.0 x.1.now)
number_answer before text rest None b none = λ n more f e. none n more f (past_text (part_text before) rest (hex n) more text b e)
number_answer before text rest (Some x) b found = record { fits = found.fits; is = join (part_text before) (hex x.0) rest x.1.now text b found.is }
