-- The number of a field, from what `parse_dec` answers.
use Rattle.std.proofs.Common.{◌≡◌, ◌≢◌, ℕ, ◌^◌, ◌<◌, List, true, inl, inr, Option, Some, None, refl, sym, ap, ◌∙◌, arith}
use Rattle.std.specs.Prelude.{decimal, nat_lt, IfSome, IfNone}
use Rattle.std.specs.Str.{bytes_eq}
use Rattle.std.specs.Str.Parse.{digits_value}
use Rattle.std.proofs.lemmas.Fmt.{decimal_is_IsNumeral}
use Rattle.std.proofs.lemmas.Slice.Eq.{bytes_eq-Decides}
use Rattle.std.proofs.lemmas.Bool.Decides.{nat_tests}
use Rattle.res_base.proofs.SumLemmas.{bool_cases}
use Rattle.reg_trace.specs.Reading.{number_of}

pub number_is : (text : List ℕ) (n : ℕ) → n < 2 ^ 64 → text ≡ decimal n → number_of text ≡ Some n
unfolding number_of
number_is text n l e =
    let value : digits_value 10 text ≡ n = ap (digits_value 10) e ∙ (decimal_is_IsNumeral n l).1 in
    let low : nat_lt n (2 ^ 64) ≡ true = grind (arith, nat_tests) in
    let same : bytes_eq text (decimal n) ≡ true = (bytes_eq-Decides text (decimal n)).1 e in
    rw value (rw (low, same) refl)

no_number : (text : List ℕ) → ((n : ℕ) → n < 2 ^ 64 → text ≢ decimal n) → number_of text ≡ None
unfolding number_of
no_number text none =
    let v = digits_value 10 text in
    elim (bool_cases (nat_lt v (2 ^ 64))) [
      | inr e ↦ rw e refl
      | inl e ↦ elim (bool_cases (bytes_eq text (decimal v))) [
        | inr d ↦ rw (e, d) refl
        | inl d ↦
            let below : v < 2 ^ 64 = grind (arith, nat_tests) in
            absurd (none v below ((bytes_eq-Decides text (decimal v)).0 d))
      ]
    ]

-- what `parse_dec` answers is the number of the field
pub parsed : (text : List ℕ) (answer : Option ℕ) → IfSome answer (λ n. n < 2 ^ 64) → IfSome answer (λ n. text ≡ decimal n) → IfNone answer ((n : ℕ) → n < 2 ^ 64 → text ≢ decimal n) → answer ≡ number_of text
parsed text None l s n = sym (no_number text n)
parsed text (Some n) l s none = sym (number_is text n l s)
