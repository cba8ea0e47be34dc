-- The first line and the first field of a text.
use Rattle.std.proofs.Common.{◌≡◌, ℕ, suc, ◌+◌, ◌-◌, ◌<◌, ◌≤◌, List, [], ◌∷◌, ◌++◌, length, take, drop, true, false, eqb, ltb, cond, Option, Some, None, refl, sym, ap, ◌∙◌, inl, inr, arith}
use Rattle.std.specs.Prelude.{position}
use Rattle.std.specs.List.{slice_split, position_or_len}
use Rattle.std.proofs.lemmas.Bool.Decides.{nat_tests}
use Rattle.std.proofs.lemmas.Grind.{common_steps}
use Rattle.std.proofs.lemmas.List.{append-nil}
use Rattle.std.proofs.lemmas.List.Splits.{slice_split_first}
use Rattle.res_base.proofs.SumLemmas.{bool_cases}
use Rattle.text_lines.specs.Lines.{TextLine, bytes_of, onto_line, lines_of, is_space, fields}

found_place : (at len : ℕ) (i : ℕ) → cond (ltb at len) (Some at) None ≡ Some i → (at ≡ i) × (at < len)
found_place at len i e = elim (bool_cases (ltb at len)) [
  | inl t ↦ let f : Some at ≡ Some i = rw t at e in (cc, grind (arith, nat_tests))
  | inr t ↦ let f : (let n : Option ℕ = None in n) ≡ Some i = rw t at e in absurd cc
]

no_place : (at len : ℕ) → cond (ltb at len) (Some at) None ≡ None → len ≤ at
no_place at len e = elim (bool_cases (ltb at len)) [
  | inl t ↦ let f : Some at ≡ None = rw t at e in absurd cc
  | inr t ↦ grind (arith, nat_tests)
]

-- what is left behind a place, as a slice says it
left_is : (text : List ℕ) (i : ℕ) → take (length text - (i + 1)) (drop (i + 1) text) ≡ drop (i + 1) text
left_is text i = grind (arith, common_steps)

-- ---- fields
split_none : (text : List ℕ) → length text ≤ position_or_len is_space text → slice_split is_space text ≡ text ∷ []
split_none [] h = refl
split_none (x ∷ xs) h = elim (bool_cases (is_space x)) [
  | inl e ↦ let none : suc (length xs) ≤ 0 = rw e at h in absurd (omega arith)
  | inr e ↦
      let more : suc (length xs) ≤ 1 + position_or_len is_space xs = rw e at h in
      rw (e, split_none xs (omega arith)) refl
]

pub fields_cut : (text : List ℕ) (i : ℕ) → position (λ b. eqb b 32) text ≡ Some i → fields text ≡ take i text ∷ fields (take (length text - (i + 1)) (drop (i + 1) text))
unfolding fields
fields_cut text i e =
    let found = found_place (position_or_len is_space text) (length text) i e in
    slice_split_first is_space text 0 found.1 ∙ ap (λ k. take k text ∷ slice_split is_space (drop (k + 1) text)) found.0
    ∙ ap (λ rest. take i text ∷ slice_split is_space rest) (sym (left_is text i))

pub fields_whole : (text : List ℕ) → position (λ b. eqb b 32) text ≡ None → fields text ≡ text ∷ []
unfolding fields
fields_whole text e = split_none text (no_place (position_or_len is_space text) (length text) e)

some_part : (text : List ℕ) → (part : List ℕ) × (parts : List (List ℕ)) × (slice_split is_space text ≡ part ∷ parts)
some_part [] = ([], [], refl)
some_part (x ∷ xs) =
    let r = some_part xs in
    elim (bool_cases (is_space x)) [ inl e ↦ ([], slice_split is_space xs, rw e refl) | inr e ↦ (x ∷ r.0, r.1, rw (e, r.2) refl) ]

pub some_field : (text : List ℕ) → (part : List ℕ) × (parts : List (List ℕ)) × (fields text ≡ part ∷ parts)
unfolding fields
some_field text = some_part text

-- ---- lines
lines_at : (text : List ℕ) → position_or_len (λ b. eqb b 10) text < length text → lines_of text ≡ record { text = take (position_or_len (λ b. eqb b 10) text) text; ended = true } ∷ lines_of (drop (position_or_len (λ b. eqb b 10) text + 1) text)
lines_at [] h = absurd (omega arith)
lines_at (c ∷ cs) h = elim (bool_cases (eqb c 10)) [
  | inl e ↦ rw e refl
  | inr e ↦
      let n = position_or_len (λ b. eqb b 10) cs in
      let less : 1 + n < suc (length cs) = rw e at h in
      let two : 1 + n + 1 ≡ suc (n + 1) = omega arith in
      let one : 1 + n ≡ suc n = omega arith in
      rw (e, two, one) (ap (onto_line c) (lines_at cs (omega arith)))
]

pub lines_cut : (text : List ℕ) (i : ℕ) → position (λ b. eqb b 10) text ≡ Some i → lines_of text ≡ record { text = take i text; ended = true } ∷ lines_of (take (length text - (i + 1)) (drop (i + 1) text))
lines_cut text i e =
    let found = found_place (position_or_len (λ b. eqb b 10) text) (length text) i e in
    let cut : ℕ → List TextLine = λ k. record { text = take k text; ended = true } ∷ lines_of (drop (k + 1) text) in
    lines_at text found.1 ∙ ap cut found.0 ∙ ap (λ rest. record { text = take i text; ended = true } ∷ lines_of rest) (sym (left_is text i))

lines_none : (text : List ℕ) → length text ≤ position_or_len (λ b. eqb b 10) text → 0 < length text → lines_of text ≡ record { text = text; ended = false } ∷ []
lines_none [] h l = absurd (omega arith)
lines_none (c ∷ cs) h l = elim (bool_cases (eqb c 10)) [
  | inl e ↦ let none : suc (length cs) ≤ 0 = rw e at h in absurd (omega arith)
  | inr e ↦
      let more : suc (length cs) ≤ 1 + position_or_len (λ b. eqb b 10) cs = rw e at h in
      rw e (rest cs (omega arith) (λ k. lines_none cs (omega arith) k))
]
  where
    rest : (cs : List ℕ) → length cs ≤ position_or_len (λ b. eqb b 10) cs → (0 < length cs → lines_of cs ≡ record { text = cs; ended = false } ∷ []) → onto_line c (lines_of cs) ≡ record { text = c ∷ cs; ended = false } ∷ []
    rest [] m f = refl
    rest (d ∷ ds) m f = ap (onto_line c) (f (omega arith))

pub lines_whole : (text : List ℕ) → position (λ b. eqb b 10) text ≡ None → 0 < length text → lines_of text ≡ record { text = text; ended = false } ∷ []
lines_whole text e l = lines_none text (no_place (position_or_len (λ b. eqb b 10) text) (length text) e) l

onto_some : (c : ℕ) (ls : List TextLine) → (l : TextLine) × (ms : List TextLine) × (onto_line c ls ≡ l ∷ ms)
onto_some c [] = (record { text = c ∷ []; ended = false }, [], refl)
onto_some c (l ∷ ls) = (record { text = c ∷ l.text; ended = l.ended }, ls, refl)

pub some_line : (text : List ℕ) → 0 < length text → (l : TextLine) × (ls : List TextLine) × (lines_of text ≡ l ∷ ls)
some_line [] h = absurd (omega arith)
some_line (c ∷ cs) h = elim (bool_cases (eqb c 10)) [
  | inl e ↦ (record { text = []; ended = true }, lines_of cs, rw e refl)
  | inr e ↦ let o = onto_some c (lines_of cs) in (o.0, o.1, rw e o.2)
]

-- ---- the bytes of the first line
cut_bytes : (text : List ℕ) → position_or_len (λ b. eqb b 10) text < length text → text ≡ (take (position_or_len (λ b. eqb b 10) text) text ++ 10 ∷ []) ++ drop (position_or_len (λ b. eqb b 10) text + 1) text
cut_bytes [] h = absurd (omega arith)
cut_bytes (c ∷ cs) h = elim (bool_cases (eqb c 10)) [
  | inl e ↦ let is : c ≡ 10 = grind (arith, nat_tests) in rw e (ap (λ (x : ℕ). x ∷ cs) is)
  | inr e ↦
      let n = position_or_len (λ b. eqb b 10) cs in
      let less : 1 + n < suc (length cs) = rw e at h in
      let two : 1 + n + 1 ≡ suc (n + 1) = omega arith in
      let one : 1 + n ≡ suc n = omega arith in
      rw (e, two, one) (ap (λ (xs : List ℕ). c ∷ xs) (cut_bytes cs (omega arith)))
]

pub bytes_cut : (text : List ℕ) (i : ℕ) → position (λ b. eqb b 10) text ≡ Some i → text ≡ bytes_of (record { text = take i text; ended = true }) ++ take (length text - (i + 1)) (drop (i + 1) text)
bytes_cut text i e =
    let found = found_place (position_or_len (λ b. eqb b 10) text) (length text) i e in
    cut_bytes text found.1 ∙ ap (λ (k : ℕ). (take k text ++ 10 ∷ []) ++ drop (k + 1) text) found.0
    ∙ ap (λ (rest : List ℕ). (take i text ++ 10 ∷ []) ++ rest) (sym (left_is text i))

pub bytes_whole : (text : List ℕ) → text ≡ bytes_of (record { text = text; ended = false }) ++ []
bytes_whole text = sym (append-nil text)
