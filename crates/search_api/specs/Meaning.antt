-- What a judge means, and what holds of every judge.
use Rattle.std.specs.Prelude.{◌≡◌, ℕ, List, Bool, true, false}
use Rattle.choice_rank.specs.declared.variable.VarShape.{VarShape}
use Rattle.choice_rank.specs.Choices.{IsChoice, IsShape}
use Rattle.box_split.specs.Boxes.{Run, IsBox, LiesIn, is_single, lows}
use Rattle.search_api.specs.declared.verdict.Reason.{Reason}
use Rattle.search_api.specs.declared.verdict.Verdict.{Verdict}
use Rattle.search_api.specs.declared.verdict.Verdict.TheVariants as verdict

pub record Meaning : Type 0 where
  pub shape : List VarShape
  -- which choices are legal
  pub legal : List ℕ → Bool
  -- which reasons show a box
  pub refutes : Reason → List Run → Bool
  pub verdict : List Run → Verdict

pub record IsLawful (m : Meaning) : Type 0 where
  pub is_shape : IsShape m.shape
  -- a refuted box has no legal choice
  pub none_legal : (reason : Reason) (box : List Run) → IsBox m.shape box → m.refutes reason box ≡ true → (choice : List ℕ) → IsChoice m.shape choice → LiesIn box choice → m.legal choice ≡ true → ⊥
  -- the reason of a verdict refutes the box
  pub bad_refutes : (reason : Reason) (box : List Run) → IsBox m.shape box → m.verdict box ≡ verdict.Bad reason → m.refutes reason box ≡ true
  -- a legal box has one choice, which is legal
  pub legal_is_one : (box : List Run) → IsBox m.shape box → m.verdict box ≡ verdict.Legal → (is_single box ≡ true) × (m.legal (lows box) ≡ true)
  -- an open box has two or more choices: a box with one is never open
  pub open_has_two : (box : List Run) → IsBox m.shape box → m.verdict box ≡ verdict.Open → is_single box ≡ false
