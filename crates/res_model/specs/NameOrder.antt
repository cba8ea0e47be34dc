-- Internal: an index of a table's signals by their names.
use Rattle.std.specs.Prelude.{◌≡◌, ℕ, ◌<◌, List, [], Option, Some, None, length, slice_get, slice_index_or}
use Rattle.std.specs.Cmp.Lexicographic.{slice_cmp}
use Rattle.std.specs.List.{All, Contains}
use Rattle.std.specs.List.Sorted.{IsSortedBy}
use Rattle.std.specs.Ordering.{is_lt, nat_cmp}
use Rattle.std.specs.declared.cmp.Ordering.{Ordering}
use Rattle.res_model.specs.declared.table.TableSignal.{TableSignal}

abbrev pub name_of : Option TableSignal → List ℕ
name_of None = []
name_of (Some s) = s.name

-- the name of the signal at a place
abbrev pub name_at : List TableSignal → ℕ → List ℕ
name_at ss place = name_of (slice_get ss place)

-- places by the names of their signals
unfoldable pub name_cmp : List TableSignal → ℕ → ℕ → Ordering
name_cmp ss a b = slice_cmp nat_cmp (name_at ss a) (name_at ss b)

-- the places below n, as they stand
pub record AreFirst (places : List ℕ) (n : ℕ) : Type 0 where
  pub long : length places ≡ n
  pub each : (k d : ℕ) → k < n → slice_index_or places k d ≡ k

-- the places of all signals, in the order of their names
pub record IsNameOrder (places : List ℕ) (ss : List TableSignal) : Type 0 where
  pub sorted : IsSortedBy (λ a b. is_lt (name_cmp ss a b)) places
  pub within : All (λ place. place < length ss) places
  pub all : (place : ℕ) → place < length ss → Contains places place
