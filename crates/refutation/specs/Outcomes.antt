-- What a refutation needs of an outcome: what the outcome says by itself, and what a judge adds to it.
use Rattle.std.specs.Prelude.{◌≡◌, ℕ, ◌<◌, List, [], ◌∷◌, Bool, true, false, Option, Some, None, nat_lt, if◌then◌else◌, ◌==◌}
use Rattle.res_base.specs.Lists.{Each, Member}
use Rattle.choice_rank.specs.declared.variable.VarShape.{VarShape}
use Rattle.box_split.specs.Boxes.{Run, is_single, low_of}
use Rattle.box_split.specs.Paths.{box_of}
use Rattle.search_api.specs.declared.verdict.Reason.{Reason}
use Rattle.search_api.specs.declared.verdict.Verdict.TheVariants as verdict
use Rattle.search_api.specs.declared.outcome.Cause.{Cause}
use Rattle.search_api.specs.declared.outcome.Cause.TheVariants as cause
use Rattle.search_api.specs.declared.outcome.Closed.{Closed}
use Rattle.search_api.specs.Meaning.{Meaning}
use Rattle.search_api.specs.Accounts.{CoverOnce, IsBest, IsLegalRank, OpenAbove}

-- the rank, if there is one, is below the low
abbrev pub is_below : Option ℕ → ℕ → Bool
is_below None low = false
is_below (Some rank) low = nat_lt rank low

-- the first cause, where there is one
abbrev pub or_else : Option Cause → Option Cause → Option Cause
or_else None other = other
or_else (Some c) other = Some c

-- why a path was closed; none where it was not
abbrev pub cause_at : List Closed → ℕ → Option Cause
cause_at [] path = None
cause_at (e ∷ es) path = or_else (cause_at es path) (if e.path == path then Some e.cause else None)

-- what a cause says of its box without a judge
abbrev pub FitsCause : List VarShape → List ℕ → List Run → Cause → Type 0
FitsCause vars kept box (cause.Bad reason) = Unit {0}
FitsCause vars kept box (cause.Cut rank) = Member rank kept × (rank < low_of vars box)
FitsCause vars kept box (cause.Leaf rank) = (is_single box ≡ true) × (low_of vars box ≡ rank) × Member rank kept

pub record FitsEntry (vars : List VarShape) (kept : List ℕ) (e : Closed) : Type 0 where
  pub box : List Run
  pub at : box_of vars e.path ≡ Some box
  pub closed : FitsCause vars kept box e.cause

-- what an outcome accounts for without a judge
pub record IsCovered (vars : List VarShape) (best : Option ℕ) (kept : List ℕ) (closed : List Closed) : Type 0 where
  pub cover : CoverOnce vars closed
  pub entries : Each (FitsEntry vars kept) closed
  pub best_is : IsBest kept best

-- the reason of a closed path refutes its box
abbrev pub IsRefuted : Meaning → Closed → Type 0
IsRefuted m e = (reason : Reason) (box : List Run) → e.cause ≡ cause.Bad reason → box_of m.shape e.path ≡ Some box → m.refutes reason box ≡ true

-- the reason of a closed path is the verdict on its box
abbrev pub IsOwn : Meaning → Closed → Type 0
IsOwn m e = (reason : Reason) (box : List Run) → e.cause ≡ cause.Bad reason → box_of m.shape e.path ≡ Some box → m.verdict box ≡ verdict.Bad reason

-- each reason refutes its box, and each kept rank is that of a legal choice
pub record IsSound (m : Meaning) (kept : List ℕ) (closed : List Closed) : Type 0 where
  pub refuted : Each (IsRefuted m) closed
  pub legal : Each (IsLegalRank m) kept

-- each reason is the verdict, and the verdict on each box above a closed one is open
pub record IsOwned (m : Meaning) (closed : List Closed) : Type 0 where
  pub own : Each (IsOwn m) closed
  pub open_above : Each (λ (e : Closed). OpenAbove m e.path) closed
