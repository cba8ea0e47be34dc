-- The first node of a proof that is at fault, told from a tree.
use Rattle.std.specs.Prelude.{◌≡◌, ℕ, List, [], ◌∷◌, ◌++◌, length, map, true, Option}
use Rattle.res_base.specs.Lists.{Each}
use Rattle.box_split.specs.Boxes.{Run, whole, low_of}
use Rattle.search_api.specs.Meaning.{Meaning}
use Rattle.refutation.specs.declared.node.Node.{Node}
use Rattle.refutation.specs.declared.node.Node.TheVariants as node
use Rattle.refutation.specs.Outcomes.{is_below}
use Rattle.refutation.specs.Trees.{Tree, BadLeaf, RankLeaf, WitnessLeaf, Fork, CanSplit, low_part, high_part, IsWitness, NeedsWitness}

-- a node with its own box
pub record Stand : Type 0 where
  pub node : Node
  pub box : List Run

-- the nodes of a tree in prefix order, each with its own box: below a split, the lower part and then the upper part
abbrev pub stands : Tree → List Run → List Stand
stands (BadLeaf reason) box = record { node = node.Bad reason; box = box } ∷ []
stands RankLeaf box = record { node = node.Rank; box = box } ∷ []
stands WitnessLeaf box = record { node = node.Witness; box = box } ∷ []
stands (Fork v k l r) box = record { node = node.Split v k; box = box } ∷ (stands l (low_part v k box) ++ stands r (high_part v k box))

abbrev pub nodes_in : List Stand → List Node
nodes_in ss = map (λ (s : Stand). s.node) ss

-- the rule of a node holds of a box
abbrev pub HoldsOf : Meaning → Option ℕ → Node → List Run → Type 0
HoldsOf m bound (node.Split v k) box = CanSplit v k box
HoldsOf m bound (node.Bad reason) box = m.refutes reason box ≡ true
HoldsOf m bound node.Rank box = is_below bound (low_of m.shape box) ≡ true
HoldsOf m bound node.Witness box = IsWitness m bound box

abbrev pub KeepsRule : Meaning → Option ℕ → Stand → Type 0
KeepsRule m bound s = HoldsOf m bound s.node s.box

-- the number, from 0, of the first node that is at fault, among the nodes of a tree from the box of all positions on.
-- The nodes before it stand at the beginning of that tree and keep their rules, each on its own box, and
pub data IsFirstAtFault (m : Meaning) (bound : Option ℕ) (nodes : List Node) (number : ℕ) : Type 0 where
  -- it does not
  breaks : (tree : Tree) (before after : List Stand) (here : Stand) (rest : List Node) → stands tree (whole m.shape) ≡ before ++ here ∷ after → nodes ≡ nodes_in before ++ here.node ∷ rest
      → number ≡ length before → Each (KeepsRule m bound) before → (KeepsRule m bound here → ⊥) → IsFirstAtFault m bound nodes number
  -- or they are all nodes, and the tree has more
  ends : (tree : Tree) (before after : List Stand) (here : Stand) → stands tree (whole m.shape) ≡ before ++ here ∷ after → nodes ≡ nodes_in before
      → number ≡ length before → Each (KeepsRule m bound) before → IsFirstAtFault m bound nodes number
  -- or they are all that the tree has, and there are more nodes
  goes_on : (tree : Tree) (next : Node) (rest : List Node) → nodes ≡ nodes_in (stands tree (whole m.shape)) ++ next ∷ rest
      → number ≡ length (stands tree (whole m.shape)) → Each (KeepsRule m bound) (stands tree (whole m.shape)) → IsFirstAtFault m bound nodes number
  -- or they are all nodes and all that the tree has, and the bound has no witness
  unwitnessed : (tree : Tree) → nodes ≡ nodes_in (stands tree (whole m.shape))
      → number ≡ length nodes → Each (KeepsRule m bound) (stands tree (whole m.shape)) → (NeedsWitness bound tree → ⊥) → IsFirstAtFault m bound nodes number
