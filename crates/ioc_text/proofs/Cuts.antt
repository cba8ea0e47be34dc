-- The first line of a text.
use Rattle.std.proofs.Common.{◌≡◌, ℕ, suc, ◌+◌, ◌-◌, ◌<◌, ◌≤◌, List, [], ◌∷◌, length, take, drop, Bool, false, eqb, ltb, cond, Option, Some, None, refl, ap, ◌∙◌, inl, inr, arith}
use Rattle.std.specs.Prelude.{position}
use Rattle.std.specs.List.{slice_split, position_or_len}
use Rattle.std.specs.Str.Lines.{lines, lines_of_parts, strip_carriage_return}
use Rattle.std.proofs.lemmas.Bool.Decides.{nat_tests}
use Rattle.std.proofs.lemmas.Grind.{common_steps}
use Rattle.std.proofs.lemmas.List.Splits.{slice_split_first}
use Rattle.res_base.proofs.SumLemmas.{bool_cases}

pub found_place : (at length : ℕ) (i : ℕ) → cond (ltb at length) (Some at) None ≡ Some i → (at ≡ i) × (at < length)
found_place at len i e = elim (bool_cases (ltb at len)) [
  | inl t ↦ let f : Some at ≡ Some i = rw t at e in (cc, grind (arith, nat_tests))
  | inr t ↦ let f : (let n : Option ℕ = None in n) ≡ Some i = rw t at e in absurd cc
]

pub no_place : (at length : ℕ) → cond (ltb at length) (Some at) None ≡ None → length ≤ at
no_place at len e = elim (bool_cases (ltb at len)) [
  | inl t ↦ let f : Some at ≡ None = rw t at e in absurd cc
  | inr t ↦ grind (arith, nat_tests)
]

split_none : {X : Type 0} (p : X → Bool) (xs : List X) → length xs ≤ position_or_len p xs → slice_split p xs ≡ xs ∷ []
split_none p [] h = refl
split_none p (x ∷ xs) h = elim (bool_cases (p x)) [
  | inl e ↦ let none : suc (length xs) ≤ 0 = rw e at h in absurd (omega arith)
  | inr e ↦
      let more : suc (length xs) ≤ 1 + position_or_len p xs = rw e at h in
      rw (e, split_none p xs (omega arith)) refl
]

pub some_part : {X : Type 0} (p : X → Bool) (xs : List X) → (part : List X) × (parts : List (List X)) × (slice_split p xs ≡ part ∷ parts)
some_part p [] = ([], [], refl)
some_part p (x ∷ xs) =
    let r = some_part p xs in
    elim (bool_cases (p x)) [ inl e ↦ ([], slice_split p xs, rw e refl) | inr e ↦ (x ∷ r.0, r.1, rw (e, r.2) refl) ]

pub one_line : (text : List ℕ) → 0 < length text → position (λ b. eqb b 10) text ≡ None → lines text ≡ text ∷ []
one_line text h e =
    let whole = split_none (λ b. eqb b 10) text (no_place (position_or_len (λ b. eqb b 10) text) (length text) e) in
    let full : eqb (length text) 0 ≡ false = grind (arith, nat_tests) in
    rw whole (rw full refl)

before_parts : (line part : List ℕ) (parts more : List (List ℕ)) → parts ≡ part ∷ more → lines_of_parts (line ∷ parts) ≡ strip_carriage_return line ∷ lines_of_parts parts
before_parts line part parts more e = rw e refl

pub line_and_more : (text : List ℕ) (i : ℕ) → position (λ b. eqb b 10) text ≡ Some i → lines text ≡ strip_carriage_return (take i text) ∷ lines (take (length text - (i + 1)) (drop (i + 1) text))
line_and_more text i e =
    let at = position_or_len (λ b. eqb b 10) text in
    let found = found_place at (length text) i e in
    let more = some_part (λ b. eqb b 10) (drop (at + 1) text) in
    let rest : take (length text - (i + 1)) (drop (i + 1) text) ≡ drop (i + 1) text = grind (arith, common_steps) in
    ap lines_of_parts (slice_split_first (λ b. eqb b 10) text 0 found.1)
    ∙ before_parts (take at text) more.0 (slice_split (λ b. eqb b 10) (drop (at + 1) text)) more.1 more.2
    ∙ ap (λ k. strip_carriage_return (take k text) ∷ lines (drop (k + 1) text)) found.0
    ∙ rw rest refl
