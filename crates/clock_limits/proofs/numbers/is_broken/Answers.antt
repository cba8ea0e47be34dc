use Rattle.std.proofs.Common.{arith}
use Rattle.clock_limits.proofs.NumberLemmas.{sought_on}
use Rattle.clock_limits.proofs.numbers.is_broken.Goals as goal

pub loop-k-preserved : goal.loop-k-preserved
loop-k-preserved c = sought_on c.args.limit c.loop-k.k c.args.met.now (omega arith) c.if-k-limit.false c.loop-k.invariant
