use Rattle.std.proofs.Common.{arith}
use Rattle.box_split.proofs.WalkLemmas.{whole_turn}
use Rattle.box_split.proofs.parts.make_whole.Goals as goal

pub loop-i-preserved : goal.loop-i-preserved
loop-i-preserved c =
    whole_turn c.loop-i.i c.args.vars.now c.loop-i.lo c.loop-i.hi c.loop-i-test.true (omega arith) (omega arith) c.loop-i.invariant
