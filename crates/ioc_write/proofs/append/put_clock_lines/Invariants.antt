use Rattle.std.proofs.Common.{◌≡◌, ◌++◌, drop}
use Rattle.ioc_write.specs.WriteBack.{clock_lines}
use Rattle.ioc_write.proofs.append.put_clock_lines.Given as goal

abbrev pub invariant-loop-v : goal.invariant-loop-v
invariant-loop-v l =
    l.out.items ++ clock_lines l.plan.problem.now l.plan.at.now l.keys (drop l.v-index l.variables)
    ≡ l.fn.out.items ++ clock_lines l.plan.problem.now l.plan.at.now l.keys l.variables
