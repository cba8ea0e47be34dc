-- The tree of an outcome, and the canonical tree of a judge.
use Rattle.std.specs.Prelude.{◌≡◌, ℕ, ◌+◌, ◌*◌, ◌/◌, ◌^◌, ◌<◌, List, true, false, Option, Some, None}
use Rattle.res_base.specs.Lists.{Member}
use Rattle.choice_rank.specs.declared.variable.VarShape.{VarShape}
use Rattle.box_split.specs.Boxes.{Run, whole, is_single, low_of}
use Rattle.box_split.specs.Paths.{lower, upper, split_from}
use Rattle.search_api.specs.declared.verdict.Verdict.{Verdict}
use Rattle.search_api.specs.declared.verdict.Verdict.TheVariants as verdict
use Rattle.search_api.specs.declared.outcome.Cause.TheVariants as cause
use Rattle.search_api.specs.declared.outcome.Closed.{Closed}
use Rattle.search_api.specs.Meaning.{Meaning}
use Rattle.refutation.specs.declared.node.Node.{Node}
use Rattle.refutation.specs.Outcomes.{is_below, cause_at}
use Rattle.refutation.specs.Trees.{Tree, BadLeaf, RankLeaf, WitnessLeaf, Fork, nodes_of}

-- a closed path lies properly below this one
abbrev pub HasBelow : List Closed → ℕ → Type 0
HasBelow closed path = (e : Closed) × (k : ℕ) × Member e closed × (0 < k) × (e.path / 2 ^ k ≡ path)

-- the tree of an outcome at a path and its box: Rank where the best rank is below the low, else the
-- reason or the witness of the path that was closed there, else the split
abbrev pub IsMade : List VarShape → Option ℕ → List Closed → Tree → ℕ → List Run → Type 0
IsMade vars best closed RankLeaf path box = is_below best (low_of vars box) ≡ true
IsMade vars best closed (BadLeaf reason) path box = (is_below best (low_of vars box) ≡ false) × (cause_at closed path ≡ Some (cause.Bad reason))
IsMade vars best closed WitnessLeaf path box = (is_below best (low_of vars box) ≡ false) × ((rank : ℕ) × (cause_at closed path ≡ Some (cause.Leaf rank)))
IsMade vars best closed (Fork v k l r) path box =
    (is_below best (low_of vars box) ≡ false) × (cause_at closed path ≡ None) × HasBelow closed path × (split_from 0 box ≡ Some (v, k))
    × IsMade vars best closed l (2 * path) (lower box) × IsMade vars best closed r (2 * path + 1) (upper box)

-- the nodes are those of the tree of the outcome
pub record IsMadeOf (vars : List VarShape) (best : Option ℕ) (closed : List Closed) (nodes : List Node) : Type 0 where
  pub tree : Tree
  pub nodes_are : nodes_of tree ≡ nodes
  pub made : IsMade vars best closed tree 1 (whole vars)

-- the judge finds no reason
abbrev pub NotBad : Verdict → Type 0
NotBad (verdict.Bad reason) = ⊥
NotBad verdict.Legal = Unit {0}
NotBad verdict.Open = Unit {0}

-- the canonical tree of a box: the first of these that applies, Rank, Bad, Witness, and the split
abbrev pub IsCanonical : Meaning → Option ℕ → Tree → List Run → Type 0
IsCanonical m bound RankLeaf box = is_below bound (low_of m.shape box) ≡ true
IsCanonical m bound (BadLeaf reason) box = (is_below bound (low_of m.shape box) ≡ false) × (m.verdict box ≡ verdict.Bad reason)
IsCanonical m bound WitnessLeaf box = (is_below bound (low_of m.shape box) ≡ false) × NotBad (m.verdict box) × (is_single box ≡ true)
IsCanonical m bound (Fork v k l r) box =
    (is_below bound (low_of m.shape box) ≡ false) × NotBad (m.verdict box) × (is_single box ≡ false) × (split_from 0 box ≡ Some (v, k))
    × IsCanonical m bound l (lower box) × IsCanonical m bound r (upper box)

-- the nodes are those of the canonical tree under a bound, from the box of all positions
pub record IsCanonicalOf (m : Meaning) (bound : Option ℕ) (nodes : List Node) : Type 0 where
  pub tree : Tree
  pub nodes_are : nodes_of tree ≡ nodes
  pub canonical : IsCanonical m bound tree (whole m.shape)
