-- Internal: lines of which each key stands once, and an index of lines by their keys.
use Rattle.std.specs.Prelude.{◌≡◌, ℕ, ◌+◌, ◌*◌, ◌%◌, ◌^◌, ◌<◌, List, [], ◌∷◌, Option, Some, None, Result, Ok, Err, Bool, true, false, is_some, take, length, slice_get, slice_index_or}
use Rattle.std.specs.Cmp.Lexicographic.{slice_cmp}
use Rattle.std.specs.List.{All, Contains}
use Rattle.std.specs.List.Sorted.{IsSortedBy}
use Rattle.std.specs.Ordering.{is_lt, nat_cmp, ordering_then}
use Rattle.std.specs.declared.cmp.Ordering.{Ordering}
use Rattle.ioc_text.specs.Lines.{line_at, with_line}
use Rattle.res_model.specs.Steps.{◌>>=◌}
use Rattle.ioc_text.specs.declared.fault.IocFault.{IocFault}
use Rattle.ioc_text.specs.declared.line.Line.{Line}
use Rattle.ioc_text.specs.declared.marks.Mark.{Mark}
use Rattle.ioc_text.specs.declared.marks.TheConstants.{FACTOR}

-- the lines after those before, or the fault of the first whose key stood on a line before it
abbrev pub once_after : List Line → List Line → Result (List Line) IocFault
once_after before [] = Ok before
once_after before (line ∷ more) = do
  found ← with_line before (Some line)
  once_after found more

-- the lines, where each key stands once
abbrev pub each_once : List Line → Result (List Line) IocFault
each_once lines = once_after [] lines

-- the lines are followed by one with this fault: the fault of the first faulty line
abbrev pub first_fault : List Line → IocFault → Result (List Line) IocFault
first_fault lines fault = do
  found ← each_once lines
  Err fault

-- one byte more of a key: mixed into the sum of those before
unfoldable pub next_sum : ℕ → ℕ → ℕ
next_sum sum b = (sum * FACTOR + b) % 2 ^ 64

unfoldable pub sum_from : ℕ → List ℕ → ℕ
sum_from sum [] = sum
sum_from sum (b ∷ bs) = sum_from (next_sum sum b) bs

-- a number that keys mostly differ in
unfoldable pub sum_of : List ℕ → ℕ
sum_of key = sum_from 0 key

abbrev pub key_of : Option Line → List ℕ
key_of None = []
key_of (Some line) = line.key

-- the key of the line at a place
abbrev pub key_at : List Line → ℕ → List ℕ
key_at lines place = key_of (slice_get lines place)

-- what a mark says of its line: the key's sum, and then the key itself
unfoldable pub ranked : List Line → Mark → List ℕ
ranked lines m = m.sum ∷ key_at lines m.place

-- by the sum, then by the key, and lines of one key as they stand
unfoldable pub mark_cmp : List Line → Mark → Mark → Ordering
mark_cmp lines a b = ordering_then (slice_cmp nat_cmp (ranked lines a) (ranked lines b)) (nat_cmp a.place b.place)

abbrev pub mark_of : List Line → ℕ → Mark
mark_of lines place = record { sum = sum_of (key_at lines place); place = place }

-- the marks of the first n lines, as they stand
pub record AreMarks (lines : List Line) (marks : List Mark) (n : ℕ) : Type 0 where
  pub long : length marks ≡ n
  pub each : (k : ℕ) (d : Mark) → k < n → slice_index_or marks k d ≡ mark_of lines k

-- the marks of all lines, each once, in order
pub record IsIndex (marks : List Mark) (lines : List Line) : Type 0 where
  pub sorted : IsSortedBy (λ a b. is_lt (mark_cmp lines a b)) marks
  pub marked : All (λ m. (m.place < length lines) × (m ≡ mark_of lines m.place)) marks
  pub all : (place : ℕ) → place < length lines → Contains marks (mark_of lines place)
  pub apart : (i j : ℕ) (d : Mark) → i < length marks → j < length marks → (slice_index_or marks i d).place ≡ (slice_index_or marks j d).place → i ≡ j

-- the key at this place stood on a line before
abbrev pub stood : List Line → ℕ → Bool
stood lines place = is_some (line_at (take place lines) (key_at lines place))

-- no key stands twice
abbrev pub IsEachOnce : List Line → Type 0
IsEachOnce lines = (place : ℕ) → place < length lines → stood lines place ≡ false

-- the first place whose key stood before, or a number that is no place
pub record IsFirstRepeat (lines : List Line) (first : ℕ) : Type 0 where
  pub stands : first < length lines → stood lines first ≡ true
  pub least : (place : ℕ) → place < first → place < length lines → stood lines place ≡ false
