-- What an outcome of a search accounts for.
use Rattle.std.specs.Prelude.{◌≡◌, ℕ, ◌/◌, ◌^◌, ◌≤◌, ◌<◌, List, [], Option, Some, None, true}
use Rattle.std.specs.Option.{option_map_or}
use Rattle.res_base.specs.Lists.{Each, Member, Pairwise, total}
use Rattle.choice_rank.specs.declared.variable.VarShape.{VarShape}
use Rattle.choice_rank.specs.Choices.{IsChoice, index_of, rank_of}
use Rattle.box_split.specs.Boxes.{Run, is_single, lows, low_of}
use Rattle.box_split.specs.Paths.{box_of, covers}
use Rattle.search_api.specs.declared.verdict.Verdict.TheVariants as verdict
use Rattle.search_api.specs.declared.outcome.Cause.{Cause}
use Rattle.search_api.specs.declared.outcome.Cause.TheVariants as cause
use Rattle.search_api.specs.declared.outcome.Closed.{Closed}
use Rattle.search_api.specs.Meaning.{Meaning}

-- each choice lies in the box of exactly one closed path
abbrev pub CoverOnce : List VarShape → List Closed → Type 0
CoverOnce vars closed = (choice : List ℕ) → IsChoice vars choice → total (λ (e : Closed). covers vars e.path choice) closed ≡ 1

-- how a closed box is accounted for, with these ranks kept
abbrev pub IsClosed : Meaning → List ℕ → List Run → Cause → Type 0
-- the reason refutes the box, and is the verdict on it
IsClosed m kept box (cause.Bad reason) = (m.refutes reason box ≡ true) × (m.verdict box ≡ verdict.Bad reason)
-- the rank was kept, and is below that of each choice in the box
IsClosed m kept box (cause.Cut rank) = Member rank kept × (rank < low_of m.shape box)
-- the box has one choice, of this rank, which was kept
IsClosed m kept box (cause.Leaf rank) = (is_single box ≡ true) × (low_of m.shape box ≡ rank) × Member rank kept

-- the path is one, and its box is accounted for
pub record IsEntry (m : Meaning) (kept : List ℕ) (e : Closed) : Type 0 where
  pub box : List Run
  pub at : box_of m.shape e.path ≡ Some box
  pub closed : IsClosed m kept box e.cause

-- the rank is that of a legal choice
pub record IsLegalRank (m : Meaning) (rank : ℕ) : Type 0 where
  pub choice : List ℕ
  pub is_choice : IsChoice m.shape choice
  pub is_legal : m.legal choice ≡ true
  pub rank_is : rank_of m.shape choice ≡ rank

-- the least of the ranks that were kept; none where none was
abbrev pub IsBest : List ℕ → Option ℕ → Type 0
IsBest kept None = kept ≡ []
IsBest kept (Some rank) = Member rank kept × Each (λ k. rank ≤ k) kept

-- the verdict is open on the box of each proper prefix of the path
abbrev pub OpenAbove : Meaning → ℕ → Type 0
OpenAbove m path = (k : ℕ) (box : List Run) → 0 < k → box_of m.shape (path / 2 ^ k) ≡ Some box → m.verdict box ≡ verdict.Open

-- a fact of the rank of a leaf
abbrev pub IfLeaf : Cause → (ℕ → Type 0) → Type 0
IfLeaf (cause.Bad reason) P = Unit {0}
IfLeaf (cause.Cut rank) P = Unit {0}
IfLeaf (cause.Leaf rank) P = P rank

-- a fact where the box was not cut
abbrev pub UnlessCut : Cause → Type 0 → Type 0
UnlessCut (cause.Bad reason) P = P
UnlessCut (cause.Cut rank) P = Unit {0}
UnlessCut (cause.Leaf rank) P = P

-- the low of the box of a path
abbrev pub low_at : List VarShape → ℕ → ℕ
low_at vars path = option_map_or (λ box. low_of vars box) (box_of vars path) 0

-- after a leaf, the same worker closes no box without a cut whose low is above the leaf's rank
abbrev pub IsInTime : List VarShape → Closed → Closed → Type 0
IsInTime vars leaf later = leaf.worker ≡ later.worker → UnlessCut later.cause (IfLeaf leaf.cause (λ rank. low_at vars later.path ≤ rank))

-- an accounted outcome
pub record Accounted (m : Meaning) (best : Option ℕ) (kept : List ℕ) (closed : List Closed) : Type 0 where
  pub cover : CoverOnce m.shape closed
  pub entries : Each (IsEntry m kept) closed
  pub legal : Each (IsLegalRank m) kept
  pub best_is : IsBest kept best
  pub open_above : Each (λ (e : Closed). OpenAbove m e.path) closed
  pub in_time : Pairwise (IsInTime m.shape) closed

-- the index of the lowest corner of the box of a path
abbrev pub first_at : List VarShape → ℕ → ℕ
first_at vars path = option_map_or (λ box. index_of vars (lows box)) (box_of vars path) 0

-- one worker, with the number 0, closed the boxes in the order of their lowest corners
pub record InSerialOrder (vars : List VarShape) (closed : List Closed) : Type 0 where
  pub worker : Each (λ (e : Closed). e.worker ≡ 0) closed
  pub order : Pairwise (λ (e f : Closed). first_at vars e.path < first_at vars f.path) closed
