use Rattle.std.proofs.Common.{◌≡◌, ◌+◌, drop}
use Rattle.res_model.specs.Limits.{first_broken}
use Rattle.clock_limits.specs.Numbered.{numbered}
use Rattle.clock_limits.proofs.numbers.first_broken.Given as goal

abbrev pub invariant-loop-k : goal.invariant-loop-k
invariant-loop-k l = first_broken (numbered 3 l.met) ≡ first_broken (numbered (3 + l.k) (drop l.k l.met))
