use Rattle.std.proofs.Common.{◌≡◌, ◌+◌, drop}
use Rattle.res_model.specs.Limits.{is_met}
use Rattle.clock_limits.specs.Numbered.{numbered}
use Rattle.clock_limits.proofs.numbers.is_broken.Given as goal

abbrev pub invariant-loop-k : goal.invariant-loop-k
invariant-loop-k l = is_met l.limit (numbered 3 l.met) ≡ is_met l.limit (numbered (3 + l.k) (drop l.k l.met))
