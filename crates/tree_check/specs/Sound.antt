-- What holds of every refuter.
use Rattle.std.specs.Prelude.{◌≡◌, ℕ, List, true}
use Rattle.choice_rank.specs.Choices.{IsChoice, IsShape}
use Rattle.box_split.specs.Boxes.{Run, IsBox, LiesIn}
use Rattle.search_api.specs.declared.verdict.Reason.{Reason}
use Rattle.search_api.specs.Meaning.{Meaning, IsLawful}

pub record HasSoundReasons (m : Meaning) : Type 0 where
  pub is_shape : IsShape m.shape
  -- a box that a reason refutes has no legal choice
  pub none_legal : (reason : Reason) (box : List Run) → IsBox m.shape box → m.refutes reason box ≡ true → (choice : List ℕ) → IsChoice m.shape choice → LiesIn box choice → m.legal choice ≡ true → ⊥

-- the reasons of a lawful judge are sound
pub of_judge : (m : Meaning) → IsLawful m → HasSoundReasons m
of_judge m lawful = record { is_shape = lawful.is_shape; none_legal = lawful.none_legal }
