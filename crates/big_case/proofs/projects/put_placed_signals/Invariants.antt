use Rattle.std.proofs.Common.{◌≡◌, ◌++◌}
use Rattle.big_case.specs.Case.{joined, placed_signal}
use Rattle.big_case.proofs.projects.put_placed_signals.Given as goal

abbrev pub invariant-loop-j : goal.invariant-loop-j
invariant-loop-j l = l.out.items ≡ l.initial.out.items ++ joined l.j placed_signal
