-- Internal: what a walk over a box finds.
use Rattle.std.specs.Prelude.{◌≡◌, ℕ, ◌≤◌, List, [], ◌∷◌, ◌++◌, Option, Some, None, true, codes, map}
use Rattle.choice_rank.specs.Choices.{IsChoice, rank_of}
use Rattle.box_split.specs.Boxes.{Run, LiesIn}
use Rattle.refutation.specs.Canonical.{IsCanonical}
use Rattle.refutation.specs.Forms.{form_of}
use Rattle.refutation.specs.Spelling.{forms_text}
use Rattle.refutation.specs.Trees.{Tree, Accepts, nodes_of}
use Rattle.search_api.specs.Meaning.{Meaning}

-- the least rank of a legal choice of the box
pub record IsFirst (m : Meaning) (box : List Run) (rank : ℕ) : Type 0 where
  pub choice : List ℕ
  pub is_choice : IsChoice m.shape choice
  pub inside : LiesIn box choice
  pub is_legal : m.legal choice ≡ true
  pub rank_is : rank_of m.shape choice ≡ rank
  pub is_lowest : (other : List ℕ) → IsChoice m.shape other → LiesIn box other → m.legal other ≡ true → rank ≤ rank_of m.shape other

-- no choice of the box is legal, and the lines of its canonical tree were appended
pub record IsRefuted (m : Meaning) (box : List Run) (before after : List ℕ) : Type 0 where
  pub tree : Tree
  pub canonical : IsCanonical m None tree box
  pub accepts : Accepts m None tree box
  pub none_legal : (choice : List ℕ) → IsChoice m.shape choice → LiesIn box choice → m.legal choice ≡ true → ⊥
  pub text_is : after ≡ before ++ forms_text (map form_of (nodes_of tree))

-- the least rank, or that the box is refuted
abbrev pub IsWalked : Meaning → List Run → List ℕ → List ℕ → Option ℕ → Type 0
IsWalked m box before after None = IsRefuted m box before after
IsWalked m box before after (Some rank) = IsFirst m box rank

-- the lines of a refutation before its nodes
abbrev pub refutation_start : List ℕ
refutation_start = (codes "proof 1" ++ 10 ∷ []) ++ codes "bound none" ++ 10 ∷ []
