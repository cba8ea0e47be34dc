-- What is written of a clock variable is read as its value.
use Rattle.std.proofs.Common.{◌≡◌, ℕ, ◌<◌, ◌≤◌, ◌^◌, List, [], ◌∷◌, ◌++◌, length, drop, true, Some, refl, arith}
use Rattle.std.specs.Prelude.{codes, decimal, nat_eq, nat_le}
use Rattle.std.specs.List.{starts_with}
use Rattle.std.proofs.lemmas.Bool.Decides.{nat_tests}
use Rattle.res_model.proofs.NumberLaws.{number_is}
use Rattle.res_model.specs.Clock.{IsInRange, IsOscillator}
use Rattle.res_model.specs.Numbers.{number_up_to}
use Rattle.res_model.specs.declared.clock.ClockChoice.{ClockChoice}
use Rattle.res_model.specs.declared.clock.Src.{Src}
use Rattle.res_model.specs.declared.clock.Src.TheVariants.{Hsi, Hse, Pll}
use Rattle.ioc_project.specs.Project.{number_after, pll_source_of, system_source_of}
use Rattle.ioc_write.specs.Back.{form_of, value_in}
use Rattle.ioc_write.specs.WriteBack.{source_text, spelled}
use Rattle.ioc_write.specs.declared.variable.Variable.{Variable}
use Rattle.ioc_write.specs.declared.variable.Variable.TheVariants as variable
use Rattle.res_model.specs.ClockValues.{source_number}

number_read : (n : ℕ) → n ≤ 65535 → number_up_to 65535 (decimal n) ≡ Some n
unfolding number_up_to
number_read n l =
    let below : n < 2 ^ 64 = omega arith in
    let within : nat_le n 65535 ≡ true = grind (arith, nat_tests) in
    rw (number_is (decimal n) n below refl, within) refl

after_read : (prefix : List ℕ) (n : ℕ) → n ≤ 65535 → starts_with nat_eq (prefix ++ decimal n) prefix ≡ true → drop (length prefix) (prefix ++ decimal n) ≡ decimal n
    → number_after prefix (prefix ++ decimal n) ≡ Some n
unfolding number_after
after_read prefix n l s d = rw (s, d) (number_read n l)

same_byte : (b : ℕ) → nat_eq b b ≡ true
same_byte b = grind (arith, nat_tests)

starts : (prefix more : List ℕ) → starts_with nat_eq (prefix ++ more) prefix ≡ true
starts [] more = refl
starts (b ∷ bs) more = rw (same_byte b) (starts bs more)

drops : (prefix more : List ℕ) → drop (length prefix) (prefix ++ more) ≡ more
drops [] more = refl
drops (b ∷ bs) more = drops bs more

system_read : (s : Src) → system_source_of (codes "RCC_SYSCLKSOURCE_" ++ source_text s) ≡ Some (source_number s)
unfolding system_source_of
system_read Hsi = refl
system_read Hse = refl
system_read Pll = refl

input_read : (s : Src) → IsOscillator s → pll_source_of (codes "RCC_PLLSOURCE_" ++ source_text s) ≡ Some (source_number s)
unfolding pll_source_of
input_read Hsi i = refl
input_read Hse i = refl
input_read Pll i = absurd i

pub value_read : (c : ClockChoice) → IsInRange c → (v : Variable) → form_of v (spelled c v) ≡ Some (value_in c v)
unfolding spelled
value_read c r variable.System = system_read c.src
value_read c r variable.Input = input_read c.psrc r.psrc
value_read c r variable.Ahb = let l = r.hpre.1 in after_read (codes "RCC_SYSCLK_DIV") c.hpre (omega (arith, l)) (starts (codes "RCC_SYSCLK_DIV") (decimal c.hpre)) (drops (codes "RCC_SYSCLK_DIV") (decimal c.hpre))
value_read c r variable.P = let l = r.p.1 in after_read (codes "RCC_PLLP_DIV") c.p (omega (arith, l)) (starts (codes "RCC_PLLP_DIV") (decimal c.p)) (drops (codes "RCC_PLLP_DIV") (decimal c.p))
value_read c r variable.M = let l = r.m.1 in after_read [] c.m (omega (arith, l)) (starts [] (decimal c.m)) (drops [] (decimal c.m))
value_read c r variable.N = let l = r.n.1 in after_read [] c.n (omega (arith, l)) (starts [] (decimal c.n)) (drops [] (decimal c.n))
value_read c r variable.Q = let l = r.q.1 in after_read [] c.q (omega (arith, l)) (starts [] (decimal c.q)) (drops [] (decimal c.q))
value_read c r variable.Apb1 = let l = r.ppre1.1 in after_read (codes "RCC_HCLK_DIV") c.ppre1 (omega (arith, l)) (starts (codes "RCC_HCLK_DIV") (decimal c.ppre1)) (drops (codes "RCC_HCLK_DIV") (decimal c.ppre1))
value_read c r variable.Apb2 = let l = r.ppre2.1 in after_read (codes "RCC_HCLK_DIV") c.ppre2 (omega (arith, l)) (starts (codes "RCC_HCLK_DIV") (decimal c.ppre2)) (drops (codes "RCC_HCLK_DIV") (decimal c.ppre2))
