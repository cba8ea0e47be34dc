-- The first line of a text.
use Rattle.std.proofs.Common.{◌≡◌, ℕ, suc, ◌+◌, ◌-◌, ◌<◌, ◌≤◌, List, [], ◌∷◌, length, take, drop, Bool, eqb, ltb, cond, Option, Some, None, refl, ap, ◌∙◌, inl, inr, arith}
use Rattle.std.specs.Prelude.{position}
use Rattle.std.specs.List.{slice_split, position_or_len}
use Rattle.std.specs.Str.Lines.{strip_carriage_return}
use Rattle.std.proofs.lemmas.Bool.Decides.{nat_tests}
use Rattle.std.proofs.lemmas.Grind.{common_steps}
use Rattle.std.proofs.lemmas.List.Splits.{slice_split_first}
use Rattle.res_base.proofs.SumLemmas.{bool_cases}
use Rattle.ioc_lines.specs.Lines.{text_line, text_lines, lines_of_parts, unended, ended, ending}

found_place : (at length : ℕ) (i : ℕ) → cond (ltb at length) (Some at) None ≡ Some i → (at ≡ i) × (at < length)
found_place at len i e = elim (bool_cases (ltb at len)) [
  | inl t ↦ let f : Some at ≡ Some i = rw t at e in (cc, grind (arith, nat_tests))
  | inr t ↦ let f : (let n : Option ℕ = None in n) ≡ Some i = rw t at e in absurd cc
]

no_place : (at length : ℕ) → cond (ltb at length) (Some at) None ≡ None → length ≤ at
no_place at len e = elim (bool_cases (ltb at len)) [
  | inl t ↦ let f : Some at ≡ None = rw t at e in absurd cc
  | inr t ↦ grind (arith, nat_tests)
]

split_none : {X : Type 0} (p : X → Bool) (xs : List X) → length xs ≤ position_or_len p xs → slice_split p xs ≡ xs ∷ []
split_none p [] h = refl
split_none p (x ∷ xs) h = elim (bool_cases (p x)) [
  | inl e ↦ let none : suc (length xs) ≤ 0 = rw e at h in absurd (omega arith)
  | inr e ↦
      let more : suc (length xs) ≤ 1 + position_or_len p xs = rw e at h in
      rw (e, split_none p xs (omega arith)) refl
]

some_part : {X : Type 0} (p : X → Bool) (xs : List X) → (part : List X) × (parts : List (List X)) × (slice_split p xs ≡ part ∷ parts)
some_part p [] = ([], [], refl)
some_part p (x ∷ xs) =
    let r = some_part p xs in
    elim (bool_cases (p x)) [ inl e ↦ ([], slice_split p xs, rw e refl) | inr e ↦ (x ∷ r.0, r.1, rw (e, r.2) refl) ]

full : (text : List ℕ) → 0 < length text → unended text ≡ text_line text [] ∷ []
full [] h = absurd (omega arith)
full (b ∷ bs) h = refl

pub one_line : (text : List ℕ) → 0 < length text → position (λ b. eqb b 10) text ≡ None → text_lines text ≡ text_line text [] ∷ []
one_line text h e =
    let whole = split_none (λ b. eqb b 10) text (no_place (position_or_len (λ b. eqb b 10) text) (length text) e) in
    ap lines_of_parts whole ∙ full text h

before_parts : (line part : List ℕ) (parts more : List (List ℕ)) → parts ≡ part ∷ more → lines_of_parts (line ∷ parts) ≡ ended line ∷ lines_of_parts parts
before_parts line part parts more e = rw e refl

pub line_and_more : (text : List ℕ) (i : ℕ) → position (λ b. eqb b 10) text ≡ Some i
    → text_lines text ≡ text_line (strip_carriage_return (take i text)) (ending (take i text)) ∷ text_lines (take (length text - (i + 1)) (drop (i + 1) text))
line_and_more text i e =
    let at = position_or_len (λ b. eqb b 10) text in
    let found = found_place at (length text) i e in
    let more = some_part (λ b. eqb b 10) (drop (at + 1) text) in
    let rest : take (length text - (i + 1)) (drop (i + 1) text) ≡ drop (i + 1) text = grind (arith, common_steps) in
    ap lines_of_parts (slice_split_first (λ b. eqb b 10) text 0 found.1)
    ∙ before_parts (take at text) more.0 (slice_split (λ b. eqb b 10) (drop (at + 1) text)) more.1 more.2
    ∙ ap (λ k. ended (take k text) ∷ text_lines (drop (k + 1) text)) found.0
    ∙ rw rest refl
