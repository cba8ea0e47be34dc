-- Internal: the ends of deques, the box in a hand, and what a call answers.
use Rattle.std.specs.Prelude.{◌≡◌, ℕ, List, [], ◌∷◌, ◌++◌, Some, set, slice_get}
use Rattle.box_split.specs.Boxes.{Run, low_of}
use Rattle.box_split.specs.BoxIn.{box_in}
use Rattle.search_api.specs.declared.verdict.Verdict.{Verdict}
use Rattle.search_api.specs.Meaning.{Meaning}
use Rattle.search_core.specs.declared.state.Hand.{Hand}
use Rattle.search_core.specs.declared.state.Core.{Core}
use Rattle.search_core.specs.declared.boxes.Held.{Held}
use Rattle.search_core.specs.Events.{Holds}

-- deque w ends with the path, and became the rest
pub record TakesLast (old : List (List ℕ)) (w path : ℕ) (new : List (List ℕ)) : Type 0 where
  pub rest : List ℕ
  pub was : slice_get old w ≡ Some (rest ++ path ∷ [])
  pub is : new ≡ set old w rest

-- deque w begins with the path, and became the rest
pub record TakesFirst (old : List (List ℕ)) (w path : ℕ) (new : List (List ℕ)) : Type 0 where
  pub rest : List ℕ
  pub was : slice_get old w ≡ Some (path ∷ rest)
  pub is : new ≡ set old w rest

-- deque w ends with the path now
pub record PutsLast (old : List (List ℕ)) (w path : ℕ) (new : List (List ℕ)) : Type 0 where
  pub deque : List ℕ
  pub was : slice_get old w ≡ Some deque
  pub is : new ≡ set old w (deque ++ path ∷ [])

-- there is no deque w, or it is empty
abbrev pub IsEmptyAt : List (List ℕ) → ℕ → Type 0
IsEmptyAt deques w = (deque : List ℕ) → slice_get deques w ≡ Some deque → deque ≡ []

-- the hand of worker w, its path and the box of that with its low
pub record IsHeld (m : Meaning) (c : Core) (w : ℕ) (h : Held) : Type 0 where
  pub holds : Holds m c w h.hand h.path (box_in m.shape h.b)
  pub low : h.low ≡ low_of m.shape (box_in m.shape h.b)

-- the same, with the verdict on the box
abbrev pub IsJudged : Meaning → Core → ℕ → Held × Verdict → Type 0
IsJudged m c w x = IsHeld m c w x.0 × (m.verdict (box_in m.shape x.0.b) ≡ x.1)

-- worker w has no path in hand
abbrev pub HoldsNone : Meaning → Core → ℕ → Type 0
HoldsNone m c w = (hand : Hand) (path : ℕ) (box : List Run) → Holds m c w hand path box → ⊥
