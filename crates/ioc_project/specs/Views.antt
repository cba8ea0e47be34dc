-- Internal: what borrowed lines and signals say.
use Rattle.std.specs.Prelude.{ℕ, List, map, Option, Some, None}
use Rattle.std.specs.Borrow.{Bor}
use Rattle.ioc_text.specs.declared.line.Line.{Line}
use Rattle.res_model.specs.declared.table.TableSignal.{TableSignal}

-- each number with its line
abbrev pub seen : List (ℕ × Bor Line) → List (ℕ × Line)
seen entries = map (λ (e : ℕ × Bor Line). (e.0, e.1.now)) entries

-- a line's number with its signal
abbrev pub seen_signal : Option (ℕ × Bor TableSignal) → Option (ℕ × TableSignal)
seen_signal None = None
seen_signal (Some s) = Some (s.0, s.1.now)
