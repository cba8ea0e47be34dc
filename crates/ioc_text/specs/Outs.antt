-- Internal: lines of which some are left out, by their numbers.
use Rattle.std.specs.Prelude.{ℕ, ◌==◌, List, Bool, Option, Some, None, filter, not, if◌then◌else◌}
use Rattle.std.specs.List.{list_any}
use Rattle.ioc_text.specs.declared.line.Line.{Line}

abbrev pub is_out : List ℕ → Line → Bool
is_out outs line = list_any (λ n. line.number == n) outs

-- the lines that are not left out
abbrev pub kept : List ℕ → List Line → List Line
kept outs lines = filter (λ (l : Line). not (is_out outs l)) lines

-- a line that is found, unless it is left out
abbrev pub unless_out : List ℕ → Option Line → Option Line
unless_out outs None = None
unless_out outs (Some line) = if is_out outs line then None else Some line
