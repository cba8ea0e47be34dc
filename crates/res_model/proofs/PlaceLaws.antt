-- No pin has a name that has no place.
use Rattle.std.proofs.Common.{◌≡◌, ◌≢◌, ℕ, ◌<◌, ◌≤◌, ◌+◌, List, [], ◌∷◌, length, not, Bool, true, false, Option, Some, None, cond, refl, sym, ap, subst, arith, leb-true, ltb-true, eqb-true, ◌∙◌}
use Rattle.std.specs.Prelude.{nat_le, nat_lt, ◌==◌, if◌then◌else◌, position}
use Rattle.std.specs.List.{list_any, position_or_len}
use Rattle.std.proofs.lemmas.Bool.Decides.{nat_tests}
use Rattle.std.specs.Str.{bytes_eq}
use Rattle.std.proofs.lemmas.Grind.{common_steps}
use Rattle.std.proofs.lemmas.Slice.Eq.{bytes_eq-Decides}
use Rattle.res_base.specs.Lists.{Each}
use Rattle.res_model.specs.PinNames.{place}
use Rattle.res_model.specs.declared.table.Pin.{Pin}

-- texts that do not compare as equal differ
pub differ : (a b : List ℕ) → bytes_eq a b ≡ false → a ≢ b
differ a b h e = grind (arith, common_steps, bytes_eq-Decides a b)

none_before : (name : List ℕ) (pins : List Pin) → length pins ≤ position_or_len (λ p. bytes_eq p.name name) pins → Each (λ (p : Pin). p.name ≢ name) pins
none_before name [] h = tt
none_before name (p ∷ ps) h =
    elim (bytes_eq p.name name) as (λ b. bytes_eq p.name name ≡ b → length (p ∷ ps) ≤ cond (not b) (1 + position_or_len (λ q. bytes_eq q.name name) ps) 0 → Each (λ (q : Pin). q.name ≢ name) (p ∷ ps)) [
      | true ↦ λ e k. absurd (omega arith)
      | false ↦ λ e k. (differ p.name name e, none_before name ps (omega (arith, k)))
    ] refl h

past : (n m : ℕ) → (if nat_lt n m then Some n else None) ≡ None → m ≤ n
past n m h = grind (arith, nat_tests)

-- no pin has a name that has no place
pub no_place : (pins : List Pin) (name : List ℕ) → place pins name ≡ None → Each (λ (p : Pin). p.name ≢ name) pins
unfolding place
no_place pins name h = none_before name pins (past (position_or_len (λ p. bytes_eq p.name name) pins) (length pins) h)
