use Rattle.std.proofs.Common.{arith}
use Rattle.box_split.proofs.WalkLemmas.{split_here, split_none}
use Rattle.box_split.proofs.parts.split_in.Goals as goal

pub returns-then-lo-i-clause-split : goal.returns-then-lo-i-clause-split
returns-then-lo-i-clause-split c =
    split_here c.args.count c.loop-i.i c.cut.result c.args.lo.now c.args.hi.now c.requires.lows c.requires.highs c.loop-i-test.true c.loop-i.invariant c.if-lo-i.true c.cut.ensures.cut

pub returns-clause-split : goal.returns-clause-split
returns-clause-split c =
    split_none c.args.count c.args.lo.now c.args.hi.now c.requires.lows c.requires.highs (λ k h. c.loop-i.invariant k (omega arith))
