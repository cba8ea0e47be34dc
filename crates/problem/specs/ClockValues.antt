-- The values that a clock variable can have, what they cost, and the choice that positions make.
use Rattle.std.specs.Prelude.{ℕ, zero, suc, ◌+◌, ◌-◌, ◌++◌, ◌==◌, Bool, not, List, [], ◌∷◌, filter, length, if◌then◌else◌, slice_index, slice_index_or}
use Rattle.std.specs.List.{list_any}
use Rattle.choice_rank.specs.declared.variable.Costs.{Costs}
use Rattle.choice_rank.specs.declared.variable.Costs.TheVariants.{HomeFirst, AllOne}
use Rattle.choice_rank.specs.declared.variable.VarShape.{VarShape}
use Rattle.res_model.specs.declared.clock.ClockChoice.{ClockChoice}
use Rattle.res_model.specs.declared.clock.Src.{Src}
use Rattle.res_model.specs.declared.clock.Src.TheVariants.{Hsi, Hse, Pll}
use Rattle.res_model.specs.declared.project.Home.{Home}
use Rattle.res_model.specs.declared.table.TableParts.{TableParts}
use Rattle.res_model.specs.ClockValues.{source_of}

-- so many numbers in a row from a first one on
abbrev pub numbers_from : ℕ → ℕ → List ℕ
numbers_from zero first = []
numbers_from (suc count) first = first ∷ numbers_from count (first + 1)

-- the numbers of a range, both ends within it
abbrev pub between : ℕ × ℕ → List ℕ
between range = numbers_from (range.1 + 1 - range.0) range.0

-- the domains of src, psrc, hpre, p, m, n, q, ppre1, ppre2 and vos, each ascending, with HSI 0, HSE 1 and PLL 2
unfoldable pub clock_domains : TableParts → List (List ℕ)
clock_domains t =
    (0 ∷ 1 ∷ 2 ∷ []) ∷ (0 ∷ 1 ∷ []) ∷ t.clock.hpre ∷ t.clock.p ∷ between t.clock.m ∷ between t.clock.n ∷ between t.clock.q
    ∷ t.clock.ppre1 ∷ t.clock.ppre2 ∷ t.clock.vos ∷ []

abbrev pub is_home : ℕ → ℕ → Bool
is_home home v = v == home

-- the home first, where it is in the domain, and then the rest of the domain
abbrev pub home_first : ℕ → List ℕ → List ℕ
home_first home domain = filter (is_home home) domain ++ filter (λ v. not (is_home home v)) domain

-- a fixed variable has its home alone
abbrev pub values_with : Bool → ℕ → List ℕ → List ℕ
values_with fixed home domain = if fixed then home ∷ [] else home_first home domain

-- leaving the home costs 1; a variable whose home is not in its domain pays 1 wherever it goes
abbrev pub costs_with : ℕ → List ℕ → Costs
costs_with home domain = if list_any (is_home home) domain then HomeFirst else AllOne

abbrev pub clock_values : Bool → List (List ℕ) → List Home → List (List ℕ)
clock_values fixed [] homes = []
clock_values fixed (d ∷ ds) [] = []
clock_values fixed (d ∷ ds) (h ∷ hs) = values_with fixed h.value d ∷ clock_values fixed ds hs

-- a variable with a position for each of its values
abbrev pub variable_with : Bool → ℕ → List ℕ → VarShape
variable_with fixed home domain = record { size = length (values_with fixed home domain); costs = costs_with home domain }

abbrev pub clock_variables : Bool → List (List ℕ) → List Home → List VarShape
clock_variables fixed [] homes = []
clock_variables fixed (d ∷ ds) [] = []
clock_variables fixed (d ∷ ds) (h ∷ hs) = variable_with fixed h.value d ∷ clock_variables fixed ds hs

-- the value of the clock variable of this number at its position
abbrev pub clock_value : List (List ℕ) → List ℕ → ℕ → ℕ
clock_value values at k = slice_index (slice_index_or values k []) (slice_index at k)

-- the clocks that positions choose
unfoldable pub clock_at : List (List ℕ) → List ℕ → ClockChoice
clock_at values at = record {
  src = source_of (clock_value values at 0);
  psrc = source_of (clock_value values at 1);
  hpre = clock_value values at 2;
  p = clock_value values at 3;
  m = clock_value values at 4;
  n = clock_value values at 5;
  q = clock_value values at 6;
  ppre1 = clock_value values at 7;
  ppre2 = clock_value values at 8;
  vos = clock_value values at 9;
}

-- what a home past the last reads as
abbrev pub nowhere : Home
nowhere = record { value = 0; line = 0 }
