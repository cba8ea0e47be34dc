-- The box that a buffer holds for a shape.
use Rattle.std.specs.Prelude.{ℕ, zero, suc, ◌<◌, ◌≤◌, List, [], ◌∷◌, length, slice_index}
use Rattle.choice_rank.specs.declared.variable.VarShape.{VarShape}
use Rattle.box_split.specs.declared.buffer.BoxBuf.{BoxBuf}
use Rattle.box_split.specs.Boxes.{Run}

-- the runs of so many variables, from their low and high positions
abbrev pub runs_in : ℕ → List ℕ → List ℕ → List Run
runs_in zero los his = []
runs_in (suc n) [] his = []
runs_in (suc n) (l ∷ los) [] = []
runs_in (suc n) (l ∷ los) (h ∷ his) = record { low = l; high = h } ∷ runs_in n los his

-- a run for each variable of the shape
abbrev pub box_in : List VarShape → BoxBuf → List Run
box_in vs b = runs_in (length vs) b.lo b.hi

-- none of the variables below n has two positions
abbrev pub AreSingle : ℕ → List ℕ → List ℕ → Type 0
AreSingle n los his = (k : ℕ) → k < n → slice_index his k ≤ slice_index los k
