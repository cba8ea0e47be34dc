-- Proof trees: their nodes in prefix order, and when a tree is accepted.
use Rattle.std.specs.Prelude.{◌≡◌, ℕ, zero, suc, ◌+◌, ◌≤◌, ◌<◌, List, [], ◌∷◌, ◌++◌, true, ◌⊎◌, Option, Some, None}
use Rattle.box_split.specs.Boxes.{Run, whole, is_single, low_of, lows}
use Rattle.search_api.specs.declared.verdict.Reason.{Reason}
use Rattle.search_api.specs.Meaning.{Meaning}
use Rattle.refutation.specs.declared.node.Node.{Node}
use Rattle.refutation.specs.declared.node.Node.TheVariants as node
use Rattle.refutation.specs.Outcomes.{is_below}

pub data Tree : Type 0 where
  BadLeaf : (reason : Reason) → Tree
  RankLeaf : Tree
  WitnessLeaf : Tree
  Fork : (variable after : ℕ) → (left right : Tree) → Tree

-- the nodes of a tree in prefix order
abbrev pub nodes_of : Tree → List Node
nodes_of (BadLeaf reason) = node.Bad reason ∷ []
nodes_of RankLeaf = node.Rank ∷ []
nodes_of WitnessLeaf = node.Witness ∷ []
nodes_of (Fork v k l r) = node.Split v k ∷ (nodes_of l ++ nodes_of r)

-- a split of variable v after position k leaves both parts of the box not empty
abbrev pub CanSplit : ℕ → ℕ → List Run → Type 0
CanSplit v k [] = ⊥
CanSplit zero k (r ∷ rs) = (r.low ≤ k) × (k < r.high)
CanSplit (suc v) k (r ∷ rs) = CanSplit v k rs

-- its lower part ends at position k, and the upper part begins after it
abbrev pub low_part : ℕ → ℕ → List Run → List Run
low_part v k [] = []
low_part zero k (r ∷ rs) = record { low = r.low; high = k } ∷ rs
low_part (suc v) k (r ∷ rs) = r ∷ low_part v k rs

abbrev pub high_part : ℕ → ℕ → List Run → List Run
high_part v k [] = []
high_part zero k (r ∷ rs) = record { low = k + 1; high = r.high } ∷ rs
high_part (suc v) k (r ∷ rs) = r ∷ high_part v k rs

-- the box has one choice, which is legal and has the bound as its rank
abbrev pub IsWitness : Meaning → Option ℕ → List Run → Type 0
IsWitness m None box = ⊥
IsWitness m (Some bound) box = (is_single box ≡ true) × (m.legal (lows box) ≡ true) × (low_of m.shape box ≡ bound)

-- what a tree has to say of its box: each leaf's rule holds, and each split has two parts
abbrev pub Accepts : Meaning → Option ℕ → Tree → List Run → Type 0
Accepts m bound (BadLeaf reason) box = m.refutes reason box ≡ true
Accepts m bound RankLeaf box = is_below bound (low_of m.shape box) ≡ true
Accepts m bound WitnessLeaf box = IsWitness m bound box
Accepts m bound (Fork v k l r) box = CanSplit v k box × Accepts m bound l (low_part v k box) × Accepts m bound r (high_part v k box)

abbrev pub HasWitness : Tree → Type 0
HasWitness (BadLeaf reason) = ⊥
HasWitness RankLeaf = ⊥
HasWitness WitnessLeaf = Unit {0}
HasWitness (Fork v k l r) = HasWitness l ⊎ HasWitness r

-- a tree under a bound has a witness
abbrev pub NeedsWitness : Option ℕ → Tree → Type 0
NeedsWitness None tree = Unit {0}
NeedsWitness (Some bound) tree = HasWitness tree

-- the nodes are those of one accepted tree, from the box of all positions
pub record IsAccepted (m : Meaning) (bound : Option ℕ) (nodes : List Node) : Type 0 where
  pub tree : Tree
  pub nodes_are : nodes_of tree ≡ nodes
  pub accepts : Accepts m bound tree (whole m.shape)
  pub witness : NeedsWitness bound tree
