-- Internal: paths with their boxes beside them.
use Rattle.std.specs.Prelude.{◌≡◌, ℕ, ◌+◌, ◌*◌, ◌-◌, List, [], ◌∷◌, ◌++◌, Some}
use Rattle.std.specs.Option.{option_map_or}
use Rattle.res_base.specs.Lists.{total}
use Rattle.choice_rank.specs.declared.variable.VarShape.{VarShape}
use Rattle.box_split.specs.Boxes.{Run, size_of}
use Rattle.box_split.specs.Paths.{box_of}
use Rattle.box_split.specs.BoxIn.{box_in}
use Rattle.search_api.specs.declared.place.Place.{Place}

-- the box beside the path is the path's
abbrev pub IsAt : List VarShape → Place → Type 0
IsAt vars p = box_of vars p.path ≡ Some (box_in vars p.b)

abbrev pub paths_of : List Place → List ℕ
paths_of [] = []
paths_of (p ∷ ps) = p.path ∷ paths_of ps

-- how many boxes can be met at most below these paths, themselves included: it falls as a path is closed or split
abbrev pub work_of : List VarShape → List ℕ → ℕ
work_of vars paths = total (λ p. option_map_or (λ (box : List Run). 2 * size_of box - 1) (box_of vars p) 0) paths

-- the halves of a place's box behind what a stack holds, the lower one last
pub record PushesHalves (vars : List VarShape) (p : Place) (old new : List Place) : Type 0 where
  pub upper : Place
  pub lower : Place
  pub pushed : new ≡ (old ++ upper ∷ []) ++ lower ∷ []
  pub upper_path : upper.path ≡ 2 * p.path + 1
  pub lower_path : lower.path ≡ 2 * p.path
  pub upper_at : IsAt vars upper
  pub lower_at : IsAt vars lower
