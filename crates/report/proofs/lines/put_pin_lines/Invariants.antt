use Rattle.std.proofs.Common.{◌≡◌, ◌++◌, drop}
use Rattle.report.specs.PinText.{pin_lines}
use Rattle.report.proofs.lines.put_pin_lines.Given as goal

abbrev pub invariant-loop-k : goal.invariant-loop-k
invariant-loop-k l = l.out.items ++ pin_lines l.t (drop l.k l.signals) (drop l.k l.at) ≡ l.fn.out.items ++ pin_lines l.t l.signals l.at
