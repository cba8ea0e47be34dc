-- Paths: numbers that name boxes by halving. Path 1 is the box of all positions, and 2p and 2p + 1 are the halves of path p.
use Rattle.std.specs.Prelude.{ℕ, zero, suc, ◌+◌, ◌/◌, ◌%◌, ◌-◌, List, [], ◌∷◌, Option, Some, None, option_and_then, if◌then◌else◌, ◌==◌, nat_lt}
use Rattle.std.specs.Option.{option_map_or}
use Rattle.choice_rank.specs.declared.variable.VarShape.{VarShape}
use Rattle.box_split.specs.Boxes.{Run, whole, holds, is_single}

-- the last position of the lower half of a run: position 0 is parted from the rest, and else the first half, rounded down
abbrev pub cut_of : Run → ℕ
cut_of r = if r.low == 0 then 0 else r.low + (r.high - r.low - 1) / 2

-- the first variable with two positions, counted from k, and the last position of its lower half
abbrev pub split_from : ℕ → List Run → Option (ℕ × ℕ)
split_from k [] = None
split_from k (r ∷ rs) = if nat_lt r.low r.high then Some (k, cut_of r) else split_from (k + 1) rs

-- the two halves, at the first variable with two positions
abbrev pub lower : List Run → List Run
lower [] = []
lower (r ∷ rs) = if nat_lt r.low r.high then record { low = r.low; high = cut_of r } ∷ rs else r ∷ lower rs

abbrev pub upper : List Run → List Run
upper [] = []
upper (r ∷ rs) = if nat_lt r.low r.high then record { low = cut_of r + 1; high = r.high } ∷ rs else r ∷ upper rs

-- the half that a bit names, where the box has two choices
abbrev pub half : ℕ → List Run → Option (List Run)
half bit rs = if is_single rs then None else Some (if bit == 0 then lower rs else upper rs)

-- the box of a path, found in so many steps
abbrev pub box_within : ℕ → List VarShape → ℕ → Option (List Run)
box_within zero vs path = None
box_within (suc n) vs path = if path == 1 then Some (whole vs) else option_and_then (half (path % 2)) (box_within n vs (path / 2))

-- the box of a path; none where the number is no path
unfoldable pub box_of : List VarShape → ℕ → Option (List Run)
box_of vs path = box_within path vs path

-- 1 where the choice lies in the box of the path, else 0
abbrev pub covers : List VarShape → ℕ → List ℕ → ℕ
covers vs path choice = option_map_or (λ box. if holds box choice then 1 else 0) (box_of vs path) 0
