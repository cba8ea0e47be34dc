-- The least choice among those that are legal.
use Rattle.std.specs.Prelude.{◌≡◌, ◌≤◌, ℕ, List, Bool, true, Option, Some, None}
use Rattle.choice_rank.specs.declared.variable.VarShape.{VarShape}
use Rattle.choice_rank.specs.Choices.{IsChoice, rank_of}

-- a choice that is legal, and no legal choice has a lower rank
pub record IsLeast (vars : List VarShape) (legal : List ℕ → Bool) (choice : List ℕ) : Type 0 where
  pub is_choice : IsChoice vars choice
  pub is_legal : legal choice ≡ true
  pub is_lowest : (other : List ℕ) → IsChoice vars other → legal other ≡ true → rank_of vars choice ≤ rank_of vars other

-- no choice is legal
abbrev pub NoneLegal : List VarShape → (List ℕ → Bool) → Type 0
NoneLegal vars legal = (other : List ℕ) → IsChoice vars other → legal other ≡ true → ⊥

-- the rank of the least choice, or that no choice is legal
abbrev pub IsAnswer : List VarShape → (List ℕ → Bool) → Option ℕ → Type 0
IsAnswer vars legal None = NoneLegal vars legal
IsAnswer vars legal (Some rank) = (choice : List ℕ) × IsLeast vars legal choice × (rank_of vars choice ≡ rank)
