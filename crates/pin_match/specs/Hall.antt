-- A set of variables that no assignment serves whole.
use Rattle.std.specs.Prelude.{◌≡◌, ◌↔◌, ℕ, zero, suc, ◌<◌, Bool, true, false, ◌&&◌, ◌||◌}
use Rattle.res_base.specs.declared.var_set.VarSet.{VarSet}
use Rattle.res_base.specs.Sums.{sum_below, one_if}
use Rattle.res_base.specs.VarSet.{in_set}
use Rattle.pin_match.specs.Assignments.{CanBeLeftOut}

-- some number below n passes
abbrev pub any_below : ℕ → (ℕ → Bool) → Bool
any_below zero p = false
any_below (suc n) p = any_below n p || p n

-- whether the resource is in the set of some member
abbrev pub is_wanted : ℕ → (ℕ → ℕ → Bool) → VarSet → ℕ → Bool
is_wanted n fits s r = any_below n (λ v. in_set s v && fits v r)

-- the variables that some largest assignment leaves out: they are more than the resources in their sets together
pub record IsHall (n m : ℕ) (fits : ℕ → ℕ → Bool) (s : VarSet) : Type 0 where
  pub exact : (v : ℕ) → v < n → (in_set s v ≡ true) ↔ CanBeLeftOut n m fits v
  pub below : (v : ℕ) → in_set s v ≡ true → v < n
  pub more : sum_below m (λ r. one_if (is_wanted n fits s r)) < sum_below n (λ v. one_if (in_set s v))
