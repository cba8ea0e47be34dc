-- Internal: a refutation under way.
use Rattle.std.specs.Prelude.{◌≡◌, ℕ, ◌+◌, ◌*◌, List, [], ◌∷◌, ◌++◌, reverse, Option, Some, None, IsSome, if◌then◌else◌}
use Rattle.std.specs.Option.{option_map_or}
use Rattle.res_base.specs.Lists.{Each}
use Rattle.choice_rank.specs.declared.variable.VarShape.{VarShape}
use Rattle.box_split.specs.Boxes.{Run, low_of}
use Rattle.box_split.specs.Paths.{box_of, split_from}
use Rattle.search_api.specs.declared.outcome.Cause.{Cause}
use Rattle.search_api.specs.declared.outcome.Cause.TheVariants as cause
use Rattle.search_api.specs.declared.outcome.Closed.{Closed}
use Rattle.search_api.specs.declared.place.Place.{Place}
use Rattle.search_api.specs.Places.{IsAt, paths_of}
use Rattle.refutation.specs.declared.node.Node.{Node}
use Rattle.refutation.specs.declared.node.Node.TheVariants as node
use Rattle.refutation.specs.Outcomes.{is_below, cause_at}
use Rattle.refutation.specs.Trees.{Tree, BadLeaf, RankLeaf, WitnessLeaf, Fork, nodes_of}

-- the node of a split
abbrev pub node_from : Option (ℕ × ℕ) → Node
node_from None = node.Rank
node_from (Some s) = node.Split s.0 s.1

-- the node of a cause
abbrev pub node_by : Cause → Node
node_by (cause.Bad reason) = node.Bad reason
node_by (cause.Cut rank) = node.Rank
node_by (cause.Leaf rank) = node.Witness

-- the node of a box that was closed for a cause, or was split
abbrev pub node_for : Option Cause → List Run → Node
node_for None box = node_from (split_from 0 box)
node_for (Some c) box = node_by c

-- the node that is written at a box
abbrev pub node_of : List VarShape → Option ℕ → Option Cause → List Run → Node
node_of vars best found box = if is_below best (low_of vars box) then node.Rank else node_for found box

abbrev pub node_at : List VarShape → Option ℕ → List Closed → ℕ → Node
node_at vars best closed path = option_map_or (node_of vars best (cause_at closed path)) (box_of vars path) node.Rank

-- the tree of these nodes
abbrev pub IsBuilt : List VarShape → Option ℕ → List Closed → Tree → ℕ → Type 0
IsBuilt vars best closed RankLeaf path = node_at vars best closed path ≡ node.Rank
IsBuilt vars best closed (BadLeaf reason) path = node_at vars best closed path ≡ node.Bad reason
IsBuilt vars best closed WitnessLeaf path = node_at vars best closed path ≡ node.Witness
IsBuilt vars best closed (Fork v k l r) path = (node_at vars best closed path ≡ node.Split v k) × IsBuilt vars best closed l (2 * path) × IsBuilt vars best closed r (2 * path + 1)

-- the nodes of the trees below these paths, the next one first
abbrev pub Builds : List VarShape → Option ℕ → List Closed → List ℕ → List Node → Type 0
Builds vars best closed [] nodes = nodes ≡ []
Builds vars best closed (p ∷ ps) nodes =
    (tree : Tree) × (rest : List Node) × (nodes ≡ nodes_of tree ++ rest) × IsBuilt vars best closed tree p × Builds vars best closed ps rest

-- a tree under way: these paths are still to go, the next one last
pub record UnderWay (vars : List VarShape) (best : Option ℕ) (closed : List Closed) (pending : List ℕ) (nodes : List Node) : Type 0 where
  pub paths : Each (λ p. IsSome (box_of vars p)) pending
  pub leads : (rest : List Node) → Builds vars best closed (reverse pending) rest → Builds vars best closed (1 ∷ []) (nodes ++ rest)

-- the same with the box of each path beside it
pub record Placed (vars : List VarShape) (best : Option ℕ) (closed : List Closed) (places : List Place) (nodes : List Node) : Type 0 where
  pub at : Each (IsAt vars) places
  pub way : UnderWay vars best closed (paths_of places) nodes
