-- Choices of a shape, their costs, indices and ranks.
use Rattle.res_base.specs.Lists.{Each}
use Rattle.std.specs.Prelude.{ℕ, ◌+◌, ◌*◌, ◌^◌, ◌≤◌, ◌<◌, List, [], ◌∷◌, length, take, if◌then◌else◌, ◌==◌, nat_lt}
use Rattle.choice_rank.specs.declared.variable.Costs.{Costs}
use Rattle.choice_rank.specs.declared.variable.Costs.TheVariants.{HomeFirst, AllZero, AllOne}
use Rattle.choice_rank.specs.declared.variable.VarShape.{VarShape}

-- a position for each variable
abbrev pub IsChoice : List VarShape → List ℕ → Type 0
IsChoice [] [] = Unit {0}
IsChoice [] (x ∷ xs) = ⊥
IsChoice (v ∷ vs) [] = ⊥
IsChoice (v ∷ vs) (x ∷ xs) = (x < v.size) × IsChoice vs xs

-- how many choices there are
abbrev pub choices_of : List VarShape → ℕ
choices_of [] = 1
choices_of (v ∷ vs) = v.size * choices_of vs

-- the mixed-radix number of a choice, variable 0 most significant
abbrev pub index_of : List VarShape → List ℕ → ℕ
index_of [] xs = 0
index_of (v ∷ vs) [] = 0
index_of (v ∷ vs) (x ∷ xs) = x * choices_of vs + index_of vs xs

-- what a position costs
abbrev pub cost_at : Costs → ℕ → ℕ
cost_at HomeFirst x = if x == 0 then 0 else 1
cost_at AllZero x = 0
cost_at AllOne x = 1

-- what a choice costs
abbrev pub cost_of : List VarShape → List ℕ → ℕ
cost_of [] xs = 0
cost_of (v ∷ vs) [] = 0
cost_of (v ∷ vs) (x ∷ xs) = cost_at v.costs x + cost_of vs xs

-- costs come first, then indices
abbrev pub rank_of : List VarShape → List ℕ → ℕ
rank_of vs xs = cost_of vs xs * choices_of vs + index_of vs xs

-- the greatest cost of a variable of so many positions
abbrev pub cost_most : Costs → ℕ → ℕ
cost_most HomeFirst size = if nat_lt 1 size then 1 else 0
cost_most AllZero size = 0
cost_most AllOne size = 1

-- the greatest costs together
abbrev pub costs_most : List VarShape → ℕ
costs_most [] = 0
costs_most (v ∷ vs) = cost_most v.costs v.size + costs_most vs

-- each variable has a position
abbrev pub HasPositions : List VarShape → Type 0
HasPositions vs = Each (λ (v : VarShape). 0 < v.size) vs

-- no variable has more than 512 positions
abbrev pub HasSmallSizes : List VarShape → Type 0
HasSmallSizes vs = Each (λ (v : VarShape). v.size ≤ 512) vs

-- each rank is below 2 ^ 63: no cost is above the greatest, and no index reaches the number of choices
abbrev pub IsNarrow : List VarShape → Type 0
IsNarrow vs = (1 + costs_most vs) * choices_of vs ≤ 2 ^ 63

-- what the type `Shape` keeps
pub record IsShape (vs : List VarShape) : Type 0 where
  pub few : length vs ≤ 170
  pub positions : HasPositions vs
  pub small : HasSmallSizes vs
  pub narrow : IsNarrow vs

-- v is the first variable that ends a list of variables that is not narrow
pub record IsFirstWide (vs : List VarShape) (v : ℕ) : Type 0 where
  pub within : v < length vs
  pub wide : ¬ IsNarrow (take (v + 1) vs)
  pub first : (w : ℕ) → w < v → IsNarrow (take (w + 1) vs)
