-- The part of a file that is read as a C text.
use Rattle.std.specs.Prelude.{ℕ, ◌+◌, List, [], ◌∷◌, ◌++◌, if◌then◌else◌, codes}
use Rattle.std.specs.Str.{bytes_eq}
use Rattle.text_lines.specs.Lines.{TextLine, bytes_of, lines_of}

-- a part of a file, and how many lines stand before it
pub record CPart : Type 0 where
  pub before : ℕ
  pub text : List ℕ

-- the bytes of lines to the first that is a closing brace, or of all where none is
abbrev pub to_close : List TextLine → List ℕ
to_close [] = []
to_close (l ∷ ls) = if bytes_eq l.text (codes "}") then bytes_of l else bytes_of l ++ to_close ls

-- a part behind more lines
abbrev pub behind : ℕ → CPart → CPart
behind more p = record { before = more + p.before; text = p.text }

-- from the first line that is exactly the first of a C text, to the first later line that is exactly a closing brace. Where there
-- is no such first line it is empty, behind all lines
abbrev pub part_of : List TextLine → CPart
part_of [] = record { before = 0; text = [] }
part_of (l ∷ ls) = if bytes_eq l.text (codes "#include <stdint.h>") then record { before = 0; text = bytes_of l ++ to_close ls } else behind 1 (part_of ls)

unfoldable pub part_in : List ℕ → CPart
part_in file = part_of (lines_of file)
