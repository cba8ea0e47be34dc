-- What was written is read again.
use Rattle.std.proofs.Common.{◌≡◌, ℕ, zero, suc, ◌+◌, ◌%◌, ◌^◌, ◌<◌, ◌≤◌, List, [], ◌∷◌, ◌++◌, Bool, true, false, ◌&&◌, eqb, ltb, leb, cond, Option, Some, None, refl, sym, ap, ◌∙◌, append_assoc, arith}
use Rattle.std.specs.Prelude.{Result, Ok, Err, codes, decimal, option_and_then}
use Rattle.std.specs.List.{onto_first}
use Rattle.std.specs.Option.{option_map, option_map_or}
use Rattle.std.specs.Str.{bytes_eq}
use Rattle.std.proofs.lemmas.Bool.Decides.{nat_tests}
use Rattle.std.proofs.lemmas.Fmt.{decimal_by_steps}
use Rattle.res_base.specs.Lists.{Each}
use Rattle.res_base.proofs.ListLemmas.{each_push, each_map}
use Rattle.search_api.specs.declared.verdict.Class.TheVariants as class
use Rattle.refutation.specs.declared.node.ProofFault.{ProofFault}
use Rattle.refutation.specs.declared.node.ProofFault.TheVariants as fault
use Rattle.refutation.specs.Forms.{Form, SplitForm, HallForm, LimitForm, RankForm, WitnessForm, due_after, takes_up, IsAscending, FitsForm, FitsBound}
use Rattle.refutation.specs.Spelling.{spaced, form_text, bound_text, lines_text, forms_text, spelling}
use Rattle.refutation.specs.Reading.{onto_line, lines_of, line_after, fields, number_below, number_from, variables_from, split_form, hall_form, limit_form, form_of_text, bound_of_text, with_prefix, with_bound, forms_from, bound_from, proof_from, proof_of, IsPassedOver}
use Rattle.refutation.proofs.FormLemmas.{append_nil}
use Rattle.refutation.proofs.NumberLemmas.{number_is}

-- ---- digits
abbrev IsDigit : ℕ → Type 0
IsDigit c = (48 ≤ c) × (c ≤ 57)

digits : (n : ℕ) → n < 2 ^ 64 → Each IsDigit (decimal n)
digits n h = decimal_by_steps (λ n ds. Each IsDigit ds)
    (λ n l. ((omega arith, omega arith), tt))
    (λ n ds l ih. each_push IsDigit ds (48 + n % 10) ih (omega arith, omega arith))
    n h

pub record BeginsAsNumber (ds : List ℕ) : Type 0 where
  first : ℕ
  others : List ℕ
  is : ds ≡ first ∷ others
  digit : IsDigit first

begins : (n : ℕ) → n < 2 ^ 64 → BeginsAsNumber (decimal n)
begins n h = decimal_by_steps (λ n ds. BeginsAsNumber ds)
    (λ n l. record { first = 48 + n; others = []; is = refl; digit = (omega arith, omega arith) })
    (λ n ds l ih. record { first = ih.first; others = ih.others ++ (48 + n % 10) ∷ []; is = ap (λ xs. xs ++ (48 + n % 10) ∷ []) ih.is; digit = ih.digit })
    n h

abbrev HasNo : ℕ → List ℕ → Type 0
HasNo byte xs = Each (λ (c : ℕ). eqb c byte ≡ false) xs

no_byte : (byte n : ℕ) → byte < 48 → n < 2 ^ 64 → HasNo byte (decimal n)
no_byte byte n b h = each_map IsDigit (λ (c : ℕ). eqb c byte ≡ false) (decimal n) (λ c d. grind (arith, nat_tests, d.0)) (digits n h)

no_append : (byte : ℕ) (xs ys : List ℕ) → HasNo byte xs → HasNo byte ys → HasNo byte (xs ++ ys)
no_append byte [] ys h k = k
no_append byte (x ∷ xs) ys h k = (h.0, no_append byte xs ys h.1 k)

spaced_clean : (vs : List ℕ) → Each (λ v. v < 2 ^ 64) vs → HasNo 10 (spaced vs)
spaced_clean [] h = tt
spaced_clean (v ∷ vs) h = (refl, no_append 10 (decimal v) (spaced vs) (no_byte 10 v (omega arith) h.0) (spaced_clean vs h.1))

ascending_small : (least : ℕ) (vs : List ℕ) → IsAscending least vs → Each (λ v. v < 2 ^ 64) vs
ascending_small least [] h = tt
ascending_small least (v ∷ vs) h = (omega (arith, h.1), ascending_small (v + 1) vs h.2)

-- ---- numbers
below_read : (most n : ℕ) → n < 2 ^ 64 → n < most → number_below most (decimal n) ≡ Some n
unfolding number_below
below_read most n h l =
    let t : ltb n most ≡ true = grind (arith, nat_tests) in
    ap (option_and_then (λ (k : ℕ). cond (ltb k most) (Some k) None)) (number_is (decimal n) n h refl) ∙ rw t refl

from_read : (least most n : ℕ) → n < 2 ^ 64 → least ≤ n → n < most → number_from least most (decimal n) ≡ Some n
unfolding number_from
from_read least most n h a l =
    let t : leb least n ≡ true = grind (arith, nat_tests) in
    ap (option_and_then (λ (k : ℕ). cond (leb least k) (Some k) None)) (below_read most n h l) ∙ rw t refl

-- ---- fields
field_then : (xs rest : List ℕ) → HasNo 32 xs → fields (xs ++ 32 ∷ rest) ≡ xs ∷ fields rest
unfolding fields
field_then [] rest h = refl
field_then (x ∷ xs) rest h = rw h.0 (ap (onto_first x) (field_then xs rest h.1))

field_last : (xs : List ℕ) → HasNo 32 xs → fields xs ≡ xs ∷ []
unfolding fields
field_last [] h = refl
field_last (x ∷ xs) h = rw h.0 (ap (onto_first x) (field_last xs h.1))

last_number : (n : ℕ) → n < 2 ^ 64 → fields (decimal n ++ []) ≡ decimal n ∷ []
last_number n h = ap fields (append_nil (decimal n)) ∙ field_last (decimal n) (no_byte 32 n (omega arith) h)

variables_read : (least v : ℕ) (vs : List ℕ) → IsAscending least (v ∷ vs) → variables_from least (fields (decimal v ++ spaced vs)) ≡ Some (v ∷ vs)
variables_read least v [] h =
    ap (variables_from least) (last_number v (omega (arith, h.1)))
    ∙ ap (option_and_then (λ (v : ℕ). option_map (λ (vs : List ℕ). v ∷ vs) (Some []))) (from_read least 170 v (omega (arith, h.1)) h.0 h.1)
variables_read least v (w ∷ ws) h =
    let rest = fields (decimal w ++ spaced ws) in
    ap (variables_from least) (field_then (decimal v) (decimal w ++ spaced ws) (no_byte 32 v (omega arith) (omega (arith, h.1))))
    ∙ ap (option_and_then (λ (v : ℕ). option_map (λ (vs : List ℕ). v ∷ vs) (variables_from (v + 1) rest))) (from_read least 170 v (omega (arith, h.1)) h.0 h.1)
    ∙ ap (option_map (λ (vs : List ℕ). v ∷ vs)) (variables_read (v + 1) w ws h.2)

-- ---- the line of a node
split_read : (v k : ℕ) → v < 170 → k < 512 → form_of_text (form_text (SplitForm v k)) ≡ Some (SplitForm v k)
unfolding form_of_text
split_read v k h l =
    let two : fields (decimal v ++ 32 ∷ (decimal k ++ [])) ≡ decimal v ∷ decimal k ∷ [] =
    field_then (decimal v) (decimal k ++ []) (no_byte 32 v (omega arith) (omega (arith, h))) ∙ ap (λ fs. decimal v ∷ fs) (last_number k (omega (arith, l))) in
    ap split_form two
    ∙ ap (option_and_then (λ (v : ℕ). option_map (SplitForm v) (number_below 512 (decimal k)))) (below_read 170 v (omega (arith, h)) h)
    ∙ ap (option_map (SplitForm v)) (below_read 512 k (omega (arith, l)) l)

pub form_read : (f : Form) → FitsForm f → form_of_text (form_text f) ≡ Some f
unfolding form_of_text hall_form limit_form
form_read (SplitForm v k) h = split_read v k h.0 h.1
form_read (HallForm class []) h = absurd h.0
form_read (HallForm class.Pins (v ∷ vs)) h = ap (option_map (HallForm class.Pins)) (variables_read 0 v vs h.1)
form_read (HallForm class.Exti (v ∷ vs)) h = ap (option_map (HallForm class.Exti)) (variables_read 0 v vs h.1)
form_read (LimitForm n) h =
    ap limit_form (append_nil (decimal n)) ∙ ap (option_map LimitForm) (from_read 3 18 n (omega (arith, h.1)) h.0 (omega (arith, h.1)))
form_read RankForm h = refl
form_read WitnessForm h = refl

form_clean : (f : Form) → FitsForm f → HasNo 10 (form_text f)
form_clean (SplitForm v k) h = (refl, spaced_clean (v ∷ k ∷ []) (omega (arith, h.0), (omega (arith, h.1), tt)))
form_clean (HallForm class.Pins vs) h = (refl, (refl, (refl, (refl, (refl, (refl, spaced_clean vs (ascending_small 0 vs h.1)))))))
form_clean (HallForm class.Exti vs) h = (refl, (refl, (refl, (refl, (refl, (refl, spaced_clean vs (ascending_small 0 vs h.1)))))))
form_clean (LimitForm n) h = (refl, spaced_clean (n ∷ []) (omega (arith, h.1), tt))
form_clean RankForm h = (refl, tt)
form_clean WitnessForm h = (refl, tt)

-- ---- lines
line_then : (xs rest : List ℕ) → HasNo 10 xs → lines_of (xs ++ 10 ∷ rest) ≡ record { text = xs; ended = true } ∷ lines_of rest
line_then [] rest h = refl
line_then (x ∷ xs) rest h = rw h.0 (ap (onto_line x) (line_then xs rest h.1))

last_text : List ℕ
last_text = codes "end" ++ 10 ∷ []

both_true : (a b : Bool) → (a && b) ≡ true → (a ≡ true) × (b ≡ true)
both_true true b h = (refl, h)
both_true false b h = cc

forms_read : (forms : List Form) (number due : ℕ) → Each FitsForm forms → takes_up due forms ≡ true → forms_from number due (lines_of (forms_text forms ++ last_text)) ≡ Ok forms
unfolding last_text
forms_read [] number zero h t = refl
forms_read [] number (suc due) h t = let none : eqb (suc due) 0 ≡ false = grind (arith, nat_tests) in let z : true ≡ false = sym t ∙ none in cc
forms_read (f ∷ fs) number zero h t = cc
forms_read (f ∷ fs) number (suc due) h t =
    let rest = forms_text fs ++ last_text in
    let left = (both_true (ltb 0 (suc due)) (takes_up (due_after (suc due) f) fs) t).1 in
    ap (λ xs. forms_from number (suc due) (lines_of xs)) (append_assoc (form_text f) (10 ∷ forms_text fs) last_text)
    ∙ ap (forms_from number (suc due)) (line_then (form_text f) rest (form_clean f h.0))
    ∙ ap (λ (o : Option Form). option_map_or (λ f. with_prefix (f ∷ []) (forms_from (line_after number) (due_after (suc due) f) (lines_of rest))) o (Err (fault.Line number))) (form_read f h.0)
    ∙ ap (with_prefix (f ∷ [])) (forms_read fs (line_after number) (due_after (suc due) f) h.1 left)

-- ---- the bound
bound_read : (bound : Option ℕ) → FitsBound bound → bound_of_text (bound_text bound) ≡ Some bound
unfolding bound_of_text
bound_read None h = refl
bound_read (Some rank) h =
    let b = begins rank (omega arith) in
    let other : eqb b.first 110 ≡ false = grind (arith, nat_tests, b.digit.1) in
    let not_none : bytes_eq (codes "bound " ++ decimal rank) (codes "bound none") ≡ false =
    ap (λ ds. bytes_eq (codes "bound " ++ ds) (codes "bound none")) b.is ∙ rw other refl in
    rw not_none (ap (option_map (λ (k : ℕ). Some k)) (below_read (2 ^ 63) rank (omega arith) h))

bound_clean : (bound : Option ℕ) → FitsBound bound → HasNo 10 (bound_text bound)
bound_clean None h = (refl, (refl, (refl, (refl, (refl, (refl, (refl, (refl, (refl, (refl, tt))))))))))
bound_clean (Some rank) h = (refl, (refl, (refl, (refl, (refl, (refl, no_byte 10 rank (omega arith) (omega arith)))))))

proof_read : (number : ℕ) (bound : Option ℕ) (forms : List Form) → FitsBound bound → Each FitsForm forms → takes_up 1 forms ≡ true → proof_from number (lines_of (spelling bound forms)) ≡ Ok (bound, forms)
unfolding spelling last_text
proof_read number bound forms b h t =
    let rest = forms_text forms ++ last_text in
    ap (proof_from number) (line_then (codes "proof 1") (bound_text bound ++ 10 ∷ rest) (refl, (refl, (refl, (refl, (refl, (refl, (refl, tt))))))))
    ∙ ap (bound_from (line_after number)) (line_then (bound_text bound) rest (bound_clean bound b))
    ∙ ap (λ (o : Option (Option ℕ)). option_map_or (λ bound. with_bound bound (forms_from (line_after (line_after number)) 1 (lines_of rest))) o (Err (fault.Line (line_after number)))) (bound_read bound b)
    ∙ ap (with_bound bound) (forms_read forms (line_after (line_after number)) 1 h t)

passed_read : (before : List (List ℕ)) (rest : List ℕ) (read : Result (Option ℕ × List Form) ProofFault) → Each IsPassedOver before → ((number : ℕ) → proof_from number (lines_of rest) ≡ read) → (number : ℕ) → proof_from number (lines_of (lines_text before ++ rest)) ≡ read
passed_read [] rest read h f number = f number
passed_read (l ∷ ls) rest read h f number =
    ap (λ xs. proof_from number (lines_of xs)) (append_assoc l (10 ∷ lines_text ls) rest)
    ∙ ap (proof_from number) (line_then l (lines_text ls ++ rest) h.0.0)
    ∙ rw h.0.1 (passed_read ls rest read h.1 f (line_after number))

pub read_again : (before : List (List ℕ)) (bound : Option ℕ) (forms : List Form) → Each IsPassedOver before → FitsBound bound → Each FitsForm forms → takes_up 1 forms ≡ true → proof_of (lines_text before ++ spelling bound forms) ≡ Ok (bound, forms)
unfolding proof_of
read_again before bound forms p b h t = passed_read before (spelling bound forms) (Ok (bound, forms)) p (λ number. proof_read number bound forms b h t) 1
