-- Where a line of a text begins, and a text without one of its lines.
use Rattle.std.specs.Prelude.{◌≡◌, ◌≢◌, ◌⊎◌, ℕ, ◌+◌, ◌<◌, ◌==◌, List, [], ◌∷◌, ◌++◌, count_by, length, slice_index, slice_set, take}

-- a list of whole lines
abbrev pub AreWhole : List ℕ → Type 0
AreWhole prefix = (prefix ≡ []) ⊎ ((f : List ℕ) × (prefix ≡ f ++ 10 ∷ []))

-- the line of a number, which is not empty, begins there
pub record IsStart (text : List ℕ) (number at : ℕ) : Type 0 where
  pub inside : at < length text
  pub whole : AreWhole (take at text)
  pub before : count_by (λ b. b == 10) (take at text) + 1 ≡ number
  pub some_byte : slice_index text at ≢ 10

-- the line of a number is not there, or empty: numbers begin with 1, and a text ends behind its last line
pub data SaysNothing (text : List ℕ) (number : ℕ) : Type 0 where
  none : number ≡ 0 → SaysNothing text number
  past : count_by (λ b. b == 10) text + 1 < number → SaysNothing text number
  ended : AreWhole text → count_by (λ b. b == 10) text + 1 ≡ number → SaysNothing text number
  empty : (at : ℕ) → at < length text → AreWhole (take at text) → count_by (λ b. b == 10) (take at text) + 1 ≡ number → slice_index text at ≡ 10 → SaysNothing text number

-- the text without the line of a number: its first byte is made a `#`, so that the line is a remark and the others keep their numbers
pub data IsWithout (text : List ℕ) (number : ℕ) (left : List ℕ) : Type 0 where
  remarked : (at : ℕ) → IsStart text number at → left ≡ slice_set text at 35 → IsWithout text number left
  same : SaysNothing text number → left ≡ text → IsWithout text number left
