-- The uses of a choice: where a loop over them ends, and how many they are.
use Rattle.std.proofs.Common.{◌≡◌, ◌⊎◌, ℕ, zero, suc, ◌<◌, ◌≤◌, List, [], ◌∷◌, ◌++◌, length, drop, take, min, inl, inr, length-append, refl, sym, ap, ◌∙◌, arith}
use Rattle.std.proofs.lemmas.Bool.Decides.{nat_tests}
use Rattle.std.proofs.lemmas.List.{drop_all}
use Rattle.std.specs.Prelude.{slice_get}
use Rattle.std.specs.Option.{option_to_list}
use Rattle.choice_rank.specs.Choices.{IsChoice}
use Rattle.choice_rank.specs.declared.variable.VarShape.{VarShape}
use Rattle.problem.specs.Problem.{HaveValues}
use Rattle.res_model.specs.declared.table.PinUse.{PinUse}
use Rattle.res_model.specs.Placement.{uses_at}

le_or : (a b : ℕ) → (a ≤ b) ⊎ (b ≤ a)
le_or a b = grind (arith, nat_tests)

no_positions : (values : List (List PinUse)) → uses_at values [] ≡ []
no_positions [] = refl
no_positions (v ∷ vs) = refl

past : (values : List (List PinUse)) (at : List ℕ) (k : ℕ) → min (length values) (length at) ≤ k → uses_at (drop k values) (drop k at) ≡ []
past values at k l = elim (le_or (length values) (length at)) [
  | inl h ↦ let all : length values ≤ k = omega arith in rw (drop_all k values all) refl
  | inr h ↦ let all : length at ≤ k = omega arith in rw (drop_all k at all) (no_positions (drop k values))
]

no_more : (us : List PinUse) → us ++ [] ≡ us
no_more [] = refl
no_more (u ∷ us) = ap (λ (l : List PinUse). u ∷ l) (no_more us)

pub uses_end : (values : List (List PinUse)) (at : List ℕ) (k : ℕ) (found : List PinUse) → min (length values) (length at) ≤ k → found ++ uses_at (drop k values) (drop k at) ≡ uses_at values at → found ≡ uses_at values at
uses_end values at k found l h = sym (no_more found) ∙ ap (λ (us : List PinUse). found ++ us) (sym (past values at k l)) ∙ h

one : {X : Type 0} (xs : List X) (i : ℕ) → i < length xs → length (option_to_list (slice_get xs i)) ≡ 1
one [] i h = absurd (omega arith)
one (x ∷ xs) zero h = refl
one (x ∷ xs) (suc i) h = one xs i (omega arith)

-- a choice has a use for each list of values
pub length_uses : (vs : List VarShape) (uses : List (List PinUse)) (at : List ℕ) → HaveValues vs uses → IsChoice vs at → length (uses_at uses at) ≡ length uses
length_uses [] [] [] sizes choice = refl
length_uses [] [] (a ∷ at) sizes choice = absurd choice
length_uses [] (us ∷ uss) at sizes choice = absurd sizes
length_uses (v ∷ vs) [] at sizes choice = absurd sizes
length_uses (v ∷ vs) (us ∷ uss) [] sizes choice = absurd choice
length_uses (v ∷ vs) (us ∷ uss) (a ∷ at) sizes choice = length-append (option_to_list (slice_get us a)) (uses_at uss at) ∙ omega (arith, one us a (omega (arith, sizes.0, choice.0)), length_uses vs uss at sizes.1 choice.1)

-- the positions of the variables from one on are a choice of them
pub drop_choice : (k : ℕ) (vs : List VarShape) (at : List ℕ) → IsChoice vs at → IsChoice (drop k vs) (drop k at)
drop_choice zero vs at choice = choice
drop_choice (suc k) [] [] choice = tt
drop_choice (suc k) [] (a ∷ at) choice = absurd choice
drop_choice (suc k) (v ∷ vs) [] choice = absurd choice
drop_choice (suc k) (v ∷ vs) (a ∷ at) choice = drop_choice k vs at choice.1

pub length_choice : (vs : List VarShape) (at : List ℕ) → IsChoice vs at → length at ≡ length vs
length_choice [] [] choice = refl
length_choice [] (a ∷ at) choice = absurd choice
length_choice (v ∷ vs) [] choice = absurd choice
length_choice (v ∷ vs) (a ∷ at) choice = ap suc (length_choice vs at choice.1)

same_length : {X : Type 0} (vs : List VarShape) (xss : List (List X)) → HaveValues vs xss → length vs ≡ length xss
same_length [] [] h = refl
same_length [] (xs ∷ xss) h = absurd h
same_length (v ∷ vs) [] h = absurd h
same_length (v ∷ vs) (xs ∷ xss) h = ap suc (same_length vs xss h.1)

take_few : {X : Type 0} (n : ℕ) (xs : List X) → length (take n xs) ≡ n → n ≤ length xs
take_few zero xs e = omega arith
take_few (suc n) [] e = absurd (omega (arith, e))
take_few (suc n) (x ∷ xs) e = let h : n ≤ length xs = take_few n xs (omega (arith, e)) in omega (arith, h)

pub first_fits : (vs : List VarShape) (first : ℕ) (clock : List (List ℕ)) (at : List ℕ) → first ≡ length clock → HaveValues (take first vs) clock → IsChoice vs at → first ≤ length at
first_fits vs first clock at is sizes choice =
    let few : first ≤ length vs = take_few first vs (same_length (take first vs) clock sizes ∙ sym is) in
    omega (arith, few, length_choice vs at choice)
