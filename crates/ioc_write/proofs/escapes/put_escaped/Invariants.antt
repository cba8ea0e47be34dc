use Rattle.std.proofs.Common.{◌≡◌, ◌++◌, drop}
use Rattle.ioc_lines.specs.Lines.{escaped}
use Rattle.ioc_write.proofs.escapes.put_escaped.Given as goal

abbrev pub invariant-loop-b : goal.invariant-loop-b
invariant-loop-b l = l.out.items ++ escaped (drop l.b-index l.name) ≡ l.fn.out.items ++ escaped l.name
