use Rattle.std.proofs.Common.{◌≡◌, ◌++◌}
use Rattle.big_case.specs.Case.{joined, placed_output}
use Rattle.big_case.proofs.projects.put_placed_outputs.Given as goal

abbrev pub invariant-loop-i : goal.invariant-loop-i
invariant-loop-i l = l.out.items ≡ l.initial.out.items ++ joined l.i placed_output
