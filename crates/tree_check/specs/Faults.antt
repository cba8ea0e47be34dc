-- The first node of a proof that breaks its rule.
use Rattle.std.specs.Prelude.{◌≡◌, ℕ, zero, suc, ◌+◌, ◌==◌, ◌&&◌, List, [], ◌∷◌, ◌++◌, length, Bool, true, false, nat_le, nat_lt, if◌then◌else◌, Option, Some, None}
use Rattle.std.specs.List.{list_any}
use Rattle.box_split.specs.Boxes.{Run, whole, is_single, low_of, lows}
use Rattle.search_api.specs.Meaning.{Meaning}
use Rattle.refutation.specs.declared.node.CheckFault.{CheckFault}
use Rattle.refutation.specs.declared.node.CheckFault.TheVariants.{Rejected}
use Rattle.refutation.specs.declared.node.Node.{Node}
use Rattle.refutation.specs.declared.node.Node.TheVariants as node
use Rattle.refutation.specs.Outcomes.{is_below}
use Rattle.refutation.specs.Trees.{IsAccepted, low_part, high_part}

-- a split of variable v after position k leaves both parts of the box not empty
abbrev pub can_split : ℕ → ℕ → List Run → Bool
can_split v k [] = false
can_split zero k (r ∷ rs) = nat_le r.low k && nat_lt k r.high
can_split (suc v) k (r ∷ rs) = can_split v k rs

-- the box has one choice, which is legal and has the bound as its rank
abbrev pub is_witness : Meaning → Option ℕ → List Run → Bool
is_witness m None box = false
is_witness m (Some bound) box = is_single box && (m.legal (lows box) && (low_of m.shape box == bound))

-- what a node says of its box holds
abbrev pub keeps_rule : Meaning → Option ℕ → Node → List Run → Bool
keeps_rule m bound (node.Split v k) box = can_split v k box
keeps_rule m bound (node.Bad reason) box = m.refutes reason box
keeps_rule m bound node.Rank box = is_below bound (low_of m.shape box)
keeps_rule m bound node.Witness box = is_witness m bound box

-- the boxes of the nodes right below a node, the lower one first
abbrev pub parts_of : Node → List Run → List (List Run)
parts_of (node.Split v k) box = low_part v k box ∷ high_part v k box ∷ []
parts_of (node.Bad reason) box = []
parts_of node.Rank box = []
parts_of node.Witness box = []

-- each node in turn stands for the first of the boxes that are due, and in its place the boxes below it are due:
-- the number of the first node that breaks its rule or that no box is due for, counted on from a number;
-- where boxes are due after the last node, the number after it
unfoldable pub fault_from : Meaning → Option ℕ → ℕ → List Node → List (List Run) → Option ℕ
fault_from m bound number [] [] = None
fault_from m bound number [] (box ∷ boxes) = Some number
fault_from m bound number (n ∷ ns) [] = Some number
fault_from m bound number (n ∷ ns) (box ∷ boxes) = if keeps_rule m bound n box then fault_from m bound (number + 1) ns (parts_of n box ++ boxes) else Some number

abbrev pub is_witness_leaf : Node → Bool
is_witness_leaf (node.Split v k) = false
is_witness_leaf (node.Bad reason) = false
is_witness_leaf node.Rank = false
is_witness_leaf node.Witness = true

-- a bound without a witness: the number of nodes
abbrev pub fault_of_witness : Option ℕ → List Node → Option ℕ
fault_of_witness None nodes = None
fault_of_witness (Some bound) nodes = if list_any is_witness_leaf nodes then None else Some (length nodes)

abbrev pub first_of : Option ℕ → Option ℕ → Option ℕ
first_of (Some number) later = Some number
first_of None later = later

-- the first node that breaks its rule, from the box of all positions; where each keeps it, but a bound has no witness, the number of nodes
unfoldable pub fault_at : Meaning → Option ℕ → List Node → Option ℕ
fault_at m bound nodes = first_of (fault_from m bound 0 nodes (whole m.shape ∷ [])) (fault_of_witness bound nodes)

-- the nodes are not accepted, and the fault names the first that is at fault
abbrev pub IsRejected : Meaning → Option ℕ → List Node → CheckFault → Type 0
IsRejected m bound nodes (Rejected number) = (fault_at m bound nodes ≡ Some number) × (IsAccepted m bound nodes → ⊥)
