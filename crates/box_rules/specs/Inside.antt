-- Internal: the runs of a box, beside the values.
use Rattle.std.specs.Prelude.{◌≤◌, ◌<◌, List, [], ◌∷◌, length}
use Rattle.box_split.specs.Boxes.{Run}
use Rattle.res_model.specs.declared.table.PinUse.{PinUse}

-- each run has a position, and all are places of values
abbrev pub AreInside : List (List PinUse) → List Run → Type 0
AreInside [] [] = Unit {0}
AreInside [] (r ∷ rs) = ⊥
AreInside (us ∷ uss) [] = ⊥
AreInside (us ∷ uss) (r ∷ rs) = ((r.low ≤ r.high) × (r.high < length us)) × AreInside uss rs
