-- A set of resources that grows.
use Rattle.std.proofs.Common.{◌≡◌, ℕ, ◌+◌, ◌<◌, ◌≤◌, Bool, true, false, cond, eqb, ◌||◌, refl, sym, ap, ◌∙◌, inl, inr, arith, add-one}
use Rattle.std.proofs.lemmas.Bool.Decides.{nat_tests}
use Rattle.pin_match.specs.Hall.{any_below}
use Rattle.res_base.proofs.SumLemmas.{bool_cases, sum_same}
use Rattle.res_base.specs.Sums.{one_if, sum_below}
use Rattle.res_base.specs.VarSet.{in_set, set_size}
use Rattle.res_base.specs.declared.var_set.VarSet.{VarSet}

or_none : (b : Bool) → b ≡ (b || false)
or_none true = refl
or_none false = refl

pub left_as : (b t : Bool) → t ≡ false → b ≡ (b || t)
left_as b t e = or_none b ∙ ap (λ (x : Bool). b || x) (sym e)

put_if : (b t : Bool) → cond t true b ≡ (b || t)
put_if true true = refl
put_if true false = refl
put_if false true = refl
put_if false false = refl

other_way : (m n : ℕ) → eqb m n ≡ eqb n m
other_way m n = elim (bool_cases (eqb m n)) [ inl e ↦ grind (arith, nat_tests) | inr e ↦ grind (arith, nat_tests) ]

pub put_as : (b : Bool) (r resource : ℕ) → cond (eqb r resource) true b ≡ (b || eqb resource r)
put_as b r resource = put_if b (eqb r resource) ∙ ap (λ (t : Bool). b || t) (other_way r resource)

pub too_great : (r resource : ℕ) → r < 192 → 192 ≤ resource → eqb resource r ≡ false
too_great r resource l h = grind (arith, nat_tests)

pub or_assoc : (a b c : Bool) → ((a || b) || c) ≡ (a || (b || c))
or_assoc true b c = refl
or_assoc false b c = refl

pub any_more : (n : ℕ) (p : ℕ → Bool) → any_below (n + 1) p ≡ (any_below n p || p n)
any_more n p = rw add-one refl

-- a set of what passes has as many
pub size_of : (s : VarSet) (p : ℕ → Bool) → ((r : ℕ) → r < 192 → in_set s r ≡ p r) → set_size s ≡ sum_below 192 (λ r. one_if (p r))
unfolding set_size
size_of s p h = sum_same 192 (λ r. one_if (in_set s r)) (λ r. one_if (p r)) (λ r l. ap one_if (h r l))
