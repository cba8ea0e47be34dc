-- The lines of a text, and the fields of a line.
use Rattle.std.specs.Prelude.{◌≡◌, ℕ, ◌==◌, List, [], ◌∷◌, ◌++◌, Bool, true, false, Option, Some, None, if◌then◌else◌}
use Rattle.std.specs.List.{slice_split}

-- the bytes of a line, and whether it has an end
pub record TextLine : Type 0 where
  pub text : List ℕ
  pub ended : Bool

-- a byte put before the first line
abbrev pub onto_line : ℕ → List TextLine → List TextLine
onto_line c [] = record { text = c ∷ []; ended = false } ∷ []
onto_line c (l ∷ ls) = record { text = c ∷ l.text; ended = l.ended } ∷ ls

-- the lines of a text, each but the last with an end
abbrev pub lines_of : List ℕ → List TextLine
lines_of [] = []
lines_of (c ∷ cs) = if c == 10 then record { text = []; ended = true } ∷ lines_of cs else onto_line c (lines_of cs)

-- the bytes of a line with its end
abbrev pub bytes_of : TextLine → List ℕ
bytes_of l = if l.ended then l.text ++ 10 ∷ [] else l.text

-- the first line, if there is one, has no end
abbrev pub HasNoEnd : List TextLine → Type 0
HasNoEnd [] = Unit {0}
HasNoEnd (l ∷ ls) = l.ended ≡ false

abbrev pub is_space : ℕ → Bool
is_space c = c == 32

-- the fields of a line, divided by single spaces
unfoldable pub fields : List ℕ → List (List ℕ)
fields text = slice_split is_space text

-- the fields of what follows a space, if there is one
abbrev pub more_fields : Option (List ℕ) → List (List ℕ)
more_fields None = []
more_fields (Some text) = fields text
