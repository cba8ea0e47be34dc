-- The lines of a text say what its lines are, and with their ends they are the text.
use Rattle.std.proofs.Common.{◌≡◌, ℕ, suc, ◌-◌, ◌==◌, List, [], ◌∷◌, ◌++◌, length, take, map, Bool, false, cond, eqb, refl, sym, ap, ◌∙◌, inl, inr, append_assoc, append-nil, arith}
use Rattle.std.specs.Prelude.{slice_index}
use Rattle.std.specs.List.{flat_map, onto_first, slice_split}
use Rattle.std.specs.Str.Lines as std_lines
use Rattle.std.specs.Str.Lines.{strip_carriage_return}
use Rattle.std.proofs.lemmas.Bool.Decides.{nat_tests}
use Rattle.res_base.proofs.SumLemmas.{bool_cases}
use Rattle.ioc_lines.specs.Lines.{TextLine, ended, lines_of_parts, text_lines, unended}

abbrev pub whole : TextLine → List ℕ
whole l = l.says ++ l.end

-- ---- what they say

last_says : (part : List ℕ) → map (λ (l : TextLine). l.says) (unended part) ≡ std_lines.lines_of_parts (part ∷ [])
last_says [] = refl
last_says (b ∷ bs) = let some : eqb (suc (length bs)) 0 ≡ false = grind (arith, nat_tests) in rw some refl

parts_say : (parts : List (List ℕ)) → map (λ (l : TextLine). l.says) (lines_of_parts parts) ≡ std_lines.lines_of_parts parts
parts_say [] = refl
parts_say (part ∷ []) = last_says part
parts_say (part ∷ next ∷ more) = ap (λ (ls : List (List ℕ)). strip_carriage_return part ∷ ls) (parts_say (next ∷ more))

pub they_say : (text : List ℕ) → map (λ (l : TextLine). l.says) (text_lines text) ≡ std_lines.lines text
they_say text = parts_say (slice_split (λ b. b == 10) text)

-- ---- what they are

-- the parts, with an LF between each two
joined : List (List ℕ) → List ℕ
joined [] = []
joined (part ∷ []) = part
joined (part ∷ next ∷ more) = part ++ 10 ∷ joined (next ∷ more)

pub prefix_and_last : (b : ℕ) (bs : List ℕ) → b ∷ bs ≡ take (length bs) (b ∷ bs) ++ slice_index (b ∷ bs) (length bs) ∷ []
prefix_and_last b [] = refl
prefix_and_last b (c ∷ bs) = ap (λ (xs : List ℕ). b ∷ xs) (prefix_and_last c bs)

pub less_one : (n : ℕ) → suc n - 1 ≡ n
less_one n = omega arith

pub whole_ended : (part : List ℕ) → whole (ended part) ≡ part ++ 10 ∷ []
whole_ended [] = refl
whole_ended (b ∷ bs) = rw (less_one (length bs)) (case (slice_index (b ∷ bs) (length bs)) refl)
  where
    case : (last : ℕ) → slice_index (b ∷ bs) (length bs) ≡ last
        → (cond (last == 13) (take (length bs) (b ∷ bs)) (b ∷ bs)) ++ (cond (last == 13) (13 ∷ 10 ∷ []) (10 ∷ [])) ≡ (b ∷ bs) ++ 10 ∷ []
    case last e = elim (bool_cases (last == 13)) [
      | inl t ↦
          let is : last ≡ 13 = grind (arith, nat_tests) in
          rw t (sym (ap (λ (xs : List ℕ). xs ++ 10 ∷ []) (prefix_and_last b bs ∙ ap (λ (n : ℕ). take (length bs) (b ∷ bs) ++ n ∷ []) (e ∙ is)) ∙ append_assoc (take (length bs) (b ∷ bs)) (13 ∷ []) (10 ∷ [])))
      | inr t ↦ rw t refl
    ]

whole_unended : (part : List ℕ) → flat_map whole (unended part) ≡ part
whole_unended [] = refl
whole_unended (b ∷ bs) = append-nil ((b ∷ bs) ++ []) ∙ append-nil (b ∷ bs)

whole_parts : (parts : List (List ℕ)) → flat_map whole (lines_of_parts parts) ≡ joined parts
unfolding joined
whole_parts [] = refl
whole_parts (part ∷ []) = whole_unended part
whole_parts (part ∷ next ∷ more) =
    ap (λ (xs : List ℕ). xs ++ flat_map whole (lines_of_parts (next ∷ more))) (whole_ended part)
    ∙ append_assoc part (10 ∷ []) (flat_map whole (lines_of_parts (next ∷ more)))
    ∙ ap (λ (xs : List ℕ). part ++ 10 ∷ xs) (whole_parts (next ∷ more))

joined_onto : (x : ℕ) (parts : List (List ℕ)) → joined (onto_first x parts) ≡ x ∷ joined parts
unfolding joined
joined_onto x [] = refl
joined_onto x (part ∷ []) = refl
joined_onto x (part ∷ next ∷ more) = refl

joined_after : (p : ℕ → Bool) (xs : List ℕ) → joined ([] ∷ slice_split p xs) ≡ 10 ∷ joined (slice_split p xs)
unfolding joined
joined_after p [] = refl
joined_after p (x ∷ xs) = elim (bool_cases (p x)) [ inl e ↦ rw e refl | inr e ↦ rw e (after (slice_split p xs)) ]
  where
    after : (parts : List (List ℕ)) → joined ([] ∷ onto_first x parts) ≡ 10 ∷ joined (onto_first x parts)
    after [] = refl
    after (part ∷ more) = refl

joined_split : (xs : List ℕ) → joined (slice_split (λ b. b == 10) xs) ≡ xs
unfolding joined
joined_split [] = refl
joined_split (x ∷ xs) = elim (bool_cases (x == 10)) [
  | inl e ↦
      let is : x ≡ 10 = grind (arith, nat_tests) in
      rw e (joined_after (λ b. b == 10) xs ∙ ap (λ (ys : List ℕ). 10 ∷ ys) (joined_split xs) ∙ ap (λ (n : ℕ). n ∷ xs) (sym is))
  | inr e ↦ rw e (joined_onto x (slice_split (λ b. b == 10) xs) ∙ ap (λ (ys : List ℕ). x ∷ ys) (joined_split xs))
]

pub they_are : (text : List ℕ) → flat_map whole (text_lines text) ≡ text
they_are text = whole_parts (slice_split (λ b. b == 10) text) ∙ joined_split text
