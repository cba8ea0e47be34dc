use Rattle.std.proofs.Common.{◌≡◌, ◌++◌, ◌-◌}
use Rattle.problem.specs.ClockValues.{between, numbers_from}
use Rattle.problem.proofs.clocks.between.Given as goal

abbrev pub invariant-loop-n : goal.invariant-loop-n
invariant-loop-n l = l.numbers.items ++ numbers_from (l.n-end - l.n) l.n ≡ between l.fn.range
