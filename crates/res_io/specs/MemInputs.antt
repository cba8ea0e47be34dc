-- For tests: inputs in memory, as their user sees them, and which of their calls fail.
use Rattle.std.specs.Prelude.{ℕ, ◌≡◌, ◌≢◌, Bool, ◌||◌, is_none, List}
use Rattle.res_io.specs.Calls.{one_more, is_listed}
use Rattle.res_io.specs.Files.{place_in, count_at}
use Rattle.res_io.specs.Shelf.{ShelfState}

-- the files, the count of each (one that is not there is 0) and of all other names together, the numbers of
-- the calls that fail, how many calls came, and the most bytes that a take gives
pub record InputsState : Type 0 where
  pub shelf : ShelfState
  pub counts : List ℕ
  pub others : ℕ
  pub failing : List ℕ
  pub calls : ℕ
  pub piece : ℕ

-- how often a name has failed
abbrev pub faults_of : InputsState → List ℕ → ℕ
faults_of s name = count_at s.counts s.others (place_in s.shelf.files name)

-- no count changed
abbrev pub NoneCounted : InputsState → InputsState → Type 0
NoneCounted old new = (name : List ℕ) → faults_of new name ≡ faults_of old name

-- one fault more was counted: of the file of this name, or, where no file has it, of all other names together
pub record OneCounted (name : List ℕ) (old new : InputsState) : Type 0 where
  pub here : (other : List ℕ) → place_in old.shelf.files other ≡ place_in old.shelf.files name → faults_of new other ≡ one_more (faults_of old other)
  pub elsewhere : (other : List ℕ) → place_in old.shelf.files other ≢ place_in old.shelf.files name → faults_of new other ≡ faults_of old other

-- the next call is listed
abbrev pub is_due : InputsState → Bool
is_due s = is_listed s.failing s.calls

-- a name is not opened where the call is listed, and where no file has it
abbrev pub begin_fails : InputsState → List ℕ → Bool
begin_fails s name = is_due s || is_none (place_in s.shelf.files name)

-- one call more was counted
pub record IsOneCallOn (old new : InputsState) : Type 0 where
  pub calls : new.calls ≡ one_more old.calls
  pub failing : new.failing ≡ old.failing
  pub piece : new.piece ≡ old.piece
