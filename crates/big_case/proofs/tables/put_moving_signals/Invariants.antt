use Rattle.std.proofs.Common.{◌≡◌, ◌++◌}
use Rattle.big_case.specs.Case.{joined, moving_signal}
use Rattle.big_case.proofs.tables.put_moving_signals.Given as goal

abbrev pub invariant-loop-j : goal.invariant-loop-j
invariant-loop-j l = l.out.items ≡ l.initial.out.items ++ joined l.j moving_signal
