-- The lines of a project without one of them.
use Rattle.std.specs.Prelude.{ℕ, ◌==◌, List, filter, not}
use Rattle.ioc_text.specs.declared.line.Line.{Line}

-- the lines but the one of this number
abbrev pub without : ℕ → List Line → List Line
without number ioc = filter (λ (l : Line). not (l.number == number)) ioc
