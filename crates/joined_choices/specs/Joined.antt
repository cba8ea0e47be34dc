-- Choices of two lists of variables, joined.
use Rattle.std.specs.Prelude.{◌≡◌, ◌&&◌, ◌++◌, ℕ, List, Bool}
use Rattle.choice_rank.specs.Choices.{IsChoice}
use Rattle.choice_rank.specs.declared.variable.VarShape.{VarShape}

-- a choice of the prefix variables, and behind it one of the suffix variables
pub record IsJoined (vs ws : List VarShape) (choice : List ℕ) : Type 0 where
  pub prefix : List ℕ
  pub suffix : List ℕ
  pub is : choice ≡ prefix ++ suffix
  pub prefix_choice : IsChoice vs prefix
  pub suffix_choice : IsChoice ws suffix

-- a joined choice is legal exactly where its prefix and its suffix are
abbrev pub AreParts : List VarShape → List VarShape → (List ℕ → Bool) → (List ℕ → Bool) → (List ℕ → Bool) → Type 0
AreParts vs ws legal prefix_legal suffix_legal = (prefix suffix : List ℕ) → IsChoice vs prefix → IsChoice ws suffix → legal (prefix ++ suffix) ≡ (prefix_legal prefix && suffix_legal suffix)
