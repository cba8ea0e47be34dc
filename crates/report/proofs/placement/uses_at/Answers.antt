use Rattle.std.proofs.Common.{arith}
use Rattle.problem.proofs.ChoiceUses.{uses_end}
use Rattle.report.proofs.placement.uses_at.Goals as goal

pub returns : goal.returns
returns c = uses_end c.args.values.now c.args.at.now c.loop-k.k c.loop-k.found.items (omega arith) c.loop-k.invariant
