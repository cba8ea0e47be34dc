-- Internal: a search under way.
use Rattle.std.specs.Prelude.{◌≡◌, ℕ, ◌+◌, ◌<◌, List, Option, Some, None, if◌then◌else◌, nat_lt}
use Rattle.std.specs.Option.{option_map_or}
use Rattle.res_base.specs.Lists.{Each, Pairwise, total}
use Rattle.choice_rank.specs.declared.variable.VarShape.{VarShape}
use Rattle.choice_rank.specs.Choices.{IsChoice, index_of}
use Rattle.box_split.specs.Boxes.{highs}
use Rattle.box_split.specs.Paths.{box_of, covers}
use Rattle.search_api.specs.declared.outcome.Closed.{Closed}
use Rattle.search_api.specs.declared.place.Place.{Place}
use Rattle.search_api.specs.Meaning.{Meaning}
use Rattle.search_api.specs.Accounts.{IsEntry, IsLegalRank, IsBest, OpenAbove, IsInTime, first_at}
use Rattle.search_api.specs.Places.{IsAt, paths_of}

-- the best rank, where it is below a low
abbrev pub cut_rank : Option ℕ → ℕ → Option ℕ
cut_rank None low = None
cut_rank (Some rank) low = if nat_lt rank low then Some rank else None

-- the index of the highest corner of the box of a path
abbrev pub last_at : List VarShape → ℕ → ℕ
last_at vars path = option_map_or (λ box. index_of vars (highs box)) (box_of vars path) 0

-- all of the one path's box stands before all of the other's
abbrev pub IsBefore : List VarShape → ℕ → ℕ → Type 0
IsBefore vars p q = last_at vars p < first_at vars q

-- what is accounted for while these paths are still to go, the next one last
pub record Going (m : Meaning) (pending : List ℕ) (best : Option ℕ) (kept : List ℕ) (closed : List Closed) : Type 0 where
  pub cover : (choice : List ℕ) → IsChoice m.shape choice → total (λ p. covers m.shape p choice) pending + total (λ (e : Closed). covers m.shape e.path choice) closed ≡ 1
  pub entries : Each (IsEntry m kept) closed
  pub legal : Each (IsLegalRank m) kept
  pub best_is : IsBest kept best
  pub open_above : Each (λ (e : Closed). OpenAbove m e.path) closed
  pub in_time : Pairwise (IsInTime m.shape) closed
  pub worker : Each (λ (e : Closed). e.worker ≡ 0) closed
  pub in_order : Pairwise (λ (e f : Closed). IsBefore m.shape e.path f.path) closed
  -- closed boxes stand before those to go, of which the last is the next
  pub ahead : Each (λ (e : Closed). Each (IsBefore m.shape e.path) pending) closed
  pub next_last : Pairwise (λ p q. IsBefore m.shape q p) pending
  pub open_pending : Each (OpenAbove m) pending

-- the same with the box of each path beside it
pub record Walks (m : Meaning) (pending : List Place) (best : Option ℕ) (kept : List ℕ) (closed : List Closed) : Type 0 where
  pub at : Each (IsAt m.shape) pending
  pub going : Going m (paths_of pending) best kept closed
