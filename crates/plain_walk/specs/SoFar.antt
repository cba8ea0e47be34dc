-- Internal: the lowest rank among the legal choices whose index is below a bound.
use Rattle.std.specs.Prelude.{◌≡◌, ◌≤◌, ◌<◌, ℕ, List, Bool, true, Option, Some, None, MatchOption, min, ⊤}
use Rattle.choice_rank.specs.declared.variable.VarShape.{VarShape}
use Rattle.choice_rank.specs.Choices.{IsChoice, index_of, rank_of}

-- the lower of two ranks, of which the first may be absent
abbrev pub lower : Option ℕ → ℕ → ℕ
lower None rank = rank
lower (Some best) rank = min best rank

-- it is the rank of a legal choice
abbrev pub IsLegalRank : List VarShape → (List ℕ → Bool) → ℕ → Type 0
IsLegalRank vars legal rank = (choice : List ℕ) × IsChoice vars choice × (legal choice ≡ true) × (rank_of vars choice ≡ rank)

-- it is at most the rank of each legal choice whose index is below the bound
abbrev pub IsBelowAll : List VarShape → (List ℕ → Bool) → ℕ → ℕ → Type 0
IsBelowAll vars legal bound rank = (other : List ℕ) → IsChoice vars other → legal other ≡ true → index_of vars other < bound → rank ≤ rank_of vars other

abbrev pub IsLowestBelow : List VarShape → (List ℕ → Bool) → ℕ → Option ℕ → Type 0
IsLowestBelow vars legal bound None = (other : List ℕ) → IsChoice vars other → legal other ≡ true → index_of vars other < bound → ⊥
IsLowestBelow vars legal bound (Some rank) = IsLegalRank vars legal rank × IsBelowAll vars legal bound rank
