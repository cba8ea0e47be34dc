-- Sets with ten added to each member.
use Rattle.std.proofs.Common.{◌≡◌, ℕ, zero, suc, ◌||◌, inl, inr, ◌+◌, ◌-◌, ◌<◌, ◌≤◌, ◌==◌, ◌&&◌, Bool, true, false, leb, refl, sym, subst, ap, ◌∙◌, arith}
use Rattle.std.specs.Prelude.{nat_le}
use Rattle.std.proofs.lemmas.Bool.Decides.{nat_tests}
use Rattle.res_base.specs.declared.var_set.VarSet.{VarSet}
use Rattle.res_base.specs.VarSet.{in_set, IsWords}
use Rattle.res_base.proofs.SumLemmas.{split}
use Rattle.res_base.proofs.VarSetLemmas.{same_set}
use Rattle.pin_match.specs.Hall.{any_below}
use Rattle.pin_match.specs.Largest.{set_where}
use Rattle.pin_match.proofs.LargestLemmas.{true_both}
use Rattle.pin_match.proofs.WordLemmas.{set_test, set_words}
use Rattle.pin_match.proofs.CountLemmas.{and_yes, both}
use Rattle.pin_match.proofs.HallLemmas.{some_any}
use Rattle.proof_shift.specs.Raised.{IsLowSet, raised_set}

any_in : (n : ℕ) (p : ℕ → Bool) (v : ℕ) → v < n → p v ≡ true → any_below n p ≡ true
any_in zero p v l e = absurd (omega arith)
any_in (suc n) p v l e = elim (split v n) [
  | inl q ↦ last (any_below n p) (p n) (ap p (sym q) ∙ e)
  | inr d ↦ first (any_below n p) (p n) (any_in n p v (omega (arith, l, d)) e)
]
  where
    last : (a b : Bool) → b ≡ true → (a || b) ≡ true
    last true b f = refl
    last false b f = f

    first : (a b : Bool) → a ≡ true → (a || b) ≡ true
    first true b f = refl
    first false b f = cc

same_number : (u v : ℕ) → u + 10 ≡ v → (u + 10 == v) ≡ true
same_number u v e = grind (arith, nat_tests, e)

number_same : (u v : ℕ) → (u + 10 == v) ≡ true → u + 10 ≡ v
number_same u v e = grind (arith, nat_tests, e)

pub at_least : (v : ℕ) → nat_le 10 v ≡ true → 10 ≤ v
at_least v e = grind (arith, nat_tests, e)

pub least_at : (v : ℕ) → 10 ≤ v → nat_le 10 v ≡ true
least_at v l = grind (arith, nat_tests, l)

-- some member with ten added is the number, where the number less ten is a member
any_is : (n : ℕ) (s : VarSet) → ((u : ℕ) → in_set s u ≡ true → u < n) → (v : ℕ) → any_below n (λ u. in_set s u && (u + 10 == v)) ≡ (nat_le 10 v && in_set s (v - 10))
any_is n s low v = true_both (any_below n (λ u. in_set s u && (u + 10 == v))) (nat_le 10 v && in_set s (v - 10)) there back
  where
    there : any_below n (λ u. in_set s u && (u + 10 == v)) ≡ true → (nat_le 10 v && in_set s (v - 10)) ≡ true
    there e =
        let some = some_any n (λ u. in_set s u && (u + 10 == v)) e in
        let parts = both (in_set s some.0) (some.0 + 10 == v) some.2 in
        let sum : some.0 + 10 ≡ v = number_same some.0 v parts.1 in
        let member : some.0 ≡ v - 10 = omega (arith, sum) in
        and_yes (nat_le 10 v) (in_set s (v - 10)) (least_at v (omega (arith, sum))) (subst (λ (u : ℕ). in_set s u ≡ true) member parts.0)

    back : (nat_le 10 v && in_set s (v - 10)) ≡ true → any_below n (λ u. in_set s u && (u + 10 == v)) ≡ true
    back e =
        let parts = both (nat_le 10 v) (in_set s (v - 10)) e in
        let more : 10 ≤ v = at_least v parts.0 in
        let sum : v - 10 + 10 ≡ v = omega (arith, more) in
        any_in n (λ u. in_set s u && (u + 10 == v)) (v - 10) (low (v - 10) parts.1) (and_yes (in_set s (v - 10)) (v - 10 + 10 == v) parts.1 (same_number (v - 10) v sum))

pub raised_is : (n : ℕ) (s found : VarSet) → n ≡ 160 → IsWords found → IsLowSet s → ((v : ℕ) → in_set found v ≡ any_below n (λ u. in_set s u && (u + 10 == v))) → found ≡ raised_set s
unfolding raised_set
raised_is n s found many words low h =
    let p : ℕ → Bool = λ v. nat_le 10 v && in_set s (v - 10) in
    same_set found (set_where p) words (set_words p) (λ v l. h v ∙ any_is n s (λ u e. omega (arith, low u e, many)) v ∙ sym (set_test p v l))
