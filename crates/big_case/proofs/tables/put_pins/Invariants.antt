use Rattle.std.proofs.Common.{◌≡◌, ◌++◌}
use Rattle.big_case.specs.Case.{joined, listed_pin}
use Rattle.big_case.proofs.tables.put_pins.Given as goal

abbrev pub invariant-loop-k : goal.invariant-loop-k
invariant-loop-k l = l.out.items ≡ l.initial.out.items ++ joined l.k listed_pin
