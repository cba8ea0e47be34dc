-- What a wish for the clock of a bus says: it is low, HCLK is not wished, and its divider is one of the ten clock variables.
use Rattle.std.proofs.Common.{◌≡◌, ◌^◌, ◌<◌, ℕ, Bool, true, false, Option, Some, None, refl, ap, arith}
use Rattle.std.proofs.lemmas.Bool.Decides.{nat_tests}
use Rattle.std.specs.Prelude.{nat_lt}
use Rattle.problem.specs.Wishes.{bus_wish, low_wish, wish_of_bus, wish_unless}
use Rattle.res_model.specs.declared.clock.Facts.{Facts}

-- what is asked of such a wish
pub record IsLow (hclk : Option ℕ) (wish variable : ℕ) : Type 0 where
  pub low : wish < 2 ^ 48
  pub clock : variable < 10
  pub free : hclk ≡ None

of_low : (w k wish variable : ℕ) → k < 10 → low_wish w k ≡ Some (wish, variable) → IsLow None wish variable
of_low w k wish variable few e = case (nat_lt w (2 ^ 48)) refl
  where
    case : (b : Bool) → nat_lt w (2 ^ 48) ≡ b → IsLow None wish variable
    case true q =
        let x : ◌≡◌ {A = Option (ℕ × ℕ)} (Some (w, k)) (Some (wish, variable)) = rw q at e in
        let same : ◌≡◌ {A = ℕ × ℕ} (w, k) (wish, variable) = cc in
        let low : w < 2 ^ 48 = grind (arith, nat_tests, q) in
        record { low = omega (arith, low, ap (λ r. r.0) same); clock = omega (arith, few, ap (λ r. r.1) same); free = refl }
    case false q = let x : ◌≡◌ {A = Option (ℕ × ℕ)} None (Some (wish, variable)) = rw q at e in absurd cc

of_bus : (wish variable : ℕ) (pclk1 pclk2 : Option ℕ) → wish_of_bus pclk1 pclk2 ≡ Some (wish, variable) → IsLow None wish variable
of_bus wish variable (Some w) pclk2 e = of_low w 7 wish variable (omega arith) e
of_bus wish variable None (Some w) e = of_low w 8 wish variable (omega arith) e
of_bus wish variable None None e = absurd cc

of_wishes : (wish variable : ℕ) (hclk pclk1 pclk2 : Option ℕ) → wish_unless hclk (wish_of_bus pclk1 pclk2) ≡ Some (wish, variable) → IsLow hclk wish variable
of_wishes wish variable None pclk1 pclk2 e = of_bus wish variable pclk1 pclk2 e
of_wishes wish variable (Some h) pclk1 pclk2 e = absurd cc

pub bus_wish_is_low : (f : Facts) (wish variable : ℕ) → bus_wish f ≡ Some (wish, variable) → IsLow f.hclk wish variable
bus_wish_is_low f wish variable e = of_wishes wish variable f.hclk f.pclk1 f.pclk2 e
