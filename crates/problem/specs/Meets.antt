-- Which choices of a problem meet every limit.
use Rattle.std.specs.Prelude.{◌≡◌, ◌≢◌, ℕ, ◌==◌, ◌&&◌, ◌||◌, ◌+◌, List, [], Bool, true, drop, is_none, Option, slice_get, slice_index, slice_index_or}
use Rattle.res_model.specs.declared.table.PinUse.{PinUse}
use Rattle.res_model.specs.Limits.{broken_limit, meets_limit}
use Rattle.res_model.specs.Placement.{Fits, meets_pins, uses_at}
use Rattle.problem.specs.declared.parts.ProblemParts.{ProblemParts}
use Rattle.problem.specs.ClockValues.{clock_at}

-- the positions of the signals
abbrev pub places_of : ProblemParts → List ℕ → List ℕ
places_of p at = drop p.first at

-- the choice meets the limits on pins and, in a whole problem, those on clocks
unfoldable pub meets : ProblemParts → List ℕ → Bool
meets p at = meets_pins p.tables p.uses (places_of p at) && (p.first == 0 || is_none (broken_limit p.tables p.facts (clock_at p.clock at)))

-- the same as sentences
pub record Meets (p : ProblemParts) (at : List ℕ) : Type 0 where
  pub pins : Fits p.tables (uses_at p.uses (places_of p at))
  pub clocks : p.first ≢ 0 → (k : ℕ) → meets_limit p.tables p.facts (clock_at p.clock at) k ≡ true

-- the use of the signal of this number
abbrev pub use_of : ProblemParts → List ℕ → ℕ → Option PinUse
use_of p at signal = slice_get (slice_index_or p.uses signal []) (slice_index at (p.first + signal))
