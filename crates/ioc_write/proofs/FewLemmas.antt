-- A text has no more keys Mcu.Pin<k> than bytes, and one.
use Rattle.std.proofs.Common.{ℕ, suc, ◌+◌, ◌^◌, ◌<◌, ◌≤◌, ◌==◌, List, [], ◌∷◌, ◌++◌, length, Bool, Option, Some, None, subst, inl, inr, arith}
use Rattle.std.specs.List.{onto_first, slice_split}
use Rattle.std.specs.Option.{option_to_list}
use Rattle.res_base.proofs.SumLemmas.{bool_cases}
use Rattle.res_model.specs.declared.project.Signal.{Signal}
use Rattle.problem.specs.declared.parts.ProblemParts.{ProblemParts}
use Rattle.ioc_lines.specs.Lines.{TextLine, keyed, lines_of_parts, text_lines, unended}
use Rattle.ioc_write.specs.WriteBack.{needs_of, number_on, pin_numbers, pins_written}
use Rattle.ioc_write.proofs.AppendLemmas.{needs_in}
use Rattle.ioc_write.proofs.OutLemmas.{needs_counted}

one_number : (o : Option ℕ) (ns : List ℕ) (n : ℕ) → length ns ≤ n → length (option_to_list o ++ ns) ≤ suc n
one_number None ns n l = omega (arith, l)
one_number (Some k) ns n l = omega (arith, l)

few_numbers : (ls : List TextLine) → length (pin_numbers ls) ≤ length ls
few_numbers [] = omega arith
few_numbers (l ∷ ls) = one_number (number_on (keyed l.says)) (pin_numbers ls) (length ls) (few_numbers ls)

few_last : (part : List ℕ) → length (unended part) ≤ 1
few_last [] = omega arith
few_last (b ∷ bs) = omega arith

few_parts : (parts : List (List ℕ)) → length (lines_of_parts parts) ≤ length parts
few_parts [] = omega arith
few_parts (part ∷ []) = few_last part
few_parts (part ∷ next ∷ more) = let l = few_parts (next ∷ more) in omega (arith, l)

few_onto : (x : ℕ) (parts : List (List ℕ)) (n : ℕ) → length parts ≤ n + 1 → length (onto_first x parts) ≤ suc n + 1
few_onto x [] n l = omega arith
few_onto x (part ∷ parts) n l = omega (arith, l)

few_split : (p : ℕ → Bool) (xs : List ℕ) → length (slice_split p xs) ≤ length xs + 1
few_split p [] = omega arith
few_split p (x ∷ xs) = elim (bool_cases (p x)) [
  | inl y ↦ rw y (let l = few_split p xs in omega (arith, l))
  | inr n ↦ rw n (few_onto x (slice_split p xs) (length xs) (few_split p xs))
]

needs_less : (ss : List Signal) → needs_in ss ≤ length ss
needs_less [] = omega arith
needs_less (s ∷ ss) = elim (bool_cases s.need) [
  | inl y ↦ rw y (let l = needs_less ss in omega (arith, l))
  | inr n ↦ rw n (let l = needs_less ss in omega (arith, l))
]

pub few_pins : (text : List ℕ) (p : ProblemParts) → length text < 2 ^ 32 → length p.signals ≤ 160 → pins_written p (text_lines text) < 2 ^ 64
few_pins text p l m =
    let a = few_numbers (text_lines text) in
    let b = few_parts (slice_split (λ b. b == 10) text) in
    let c = few_split (λ b. b == 10) text in
    let d : needs_of p.signals ≤ length p.signals = subst (λ (n : ℕ). n ≤ length p.signals) (needs_counted p.signals) (needs_less p.signals) in
    omega (arith, a, b, c, d, l, m)
