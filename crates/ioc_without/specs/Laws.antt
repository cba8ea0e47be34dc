-- What a text says without one of its lines.
use Rattle.std.specs.Prelude.{◌≡◌, ℕ, List, Ok}
use Rattle.ioc_text.specs.Lines.{ioc_of}
use Rattle.ioc_text.specs.Without.{without}
use Rattle.ioc_text.specs.declared.line.Line.{Line}
use Rattle.ioc_without.specs.Starts.{IsWithout}

-- it says the lines that the text says, but that line: to leave a line out of what was read is to read the text without it
abbrev pub LeftIsRead : Type 0
LeftIsRead = (text left : List ℕ) (number : ℕ) (ioc : List Line) → IsWithout text number left → ioc_of text ≡ Ok ioc → ioc_of left ≡ Ok (without number ioc)
