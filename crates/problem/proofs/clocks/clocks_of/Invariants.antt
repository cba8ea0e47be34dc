use Rattle.std.proofs.Common.{◌≡◌, ◌++◌, drop}
use Rattle.problem.specs.ClockValues.{clock_values, clock_variables}
use Rattle.problem.proofs.clocks.clocks_of.Given as goal

abbrev pub invariant-loop-k : goal.invariant-loop-k
invariant-loop-k l = record {
  vars : l.vars.items ++ clock_variables l.fixed (drop l.k l.domains) (drop l.k l.homes) ≡ clock_variables l.fixed l.domains l.homes;
  values : l.values.items ++ clock_values l.fixed (drop l.k l.domains) (drop l.k l.homes) ≡ clock_values l.fixed l.domains l.homes;
}
