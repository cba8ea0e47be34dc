-- Internal: boxes that are due, as a stack holds them.
use Rattle.std.specs.Prelude.{List, Bool, true, map, reverse}
use Rattle.res_base.specs.Lists.{Each}
use Rattle.choice_rank.specs.declared.variable.VarShape.{VarShape}
use Rattle.box_split.specs.declared.buffer.BoxBuf.{BoxBuf}
use Rattle.box_split.specs.BoxIn.{box_in}
use Rattle.box_split.specs.Boxes.{Run, IsBox}
use Rattle.refutation.specs.declared.node.Node.{Node}
use Rattle.refutation.specs.declared.node.Node.TheVariants as node
use Rattle.tree_check.specs.Faults.{can_split}

-- the boxes on a stack, the last one pushed first
abbrev pub boxes_of : List VarShape → List BoxBuf → List (List Run)
boxes_of vs stack = map (λ b. box_in vs b) (reverse stack)

abbrev pub AreBoxes : List VarShape → List (List Run) → Type 0
AreBoxes vs boxes = Each (IsBox vs) boxes

-- where the node is a split, it can split the box
abbrev pub can_part : Node → List Run → Bool
can_part (node.Split v k) box = can_split v k box
can_part (node.Bad reason) box = true
can_part node.Rank box = true
can_part node.Witness box = true
