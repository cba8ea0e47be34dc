use Rattle.std.proofs.Common.{◌∙◌, length, get_or}
use Rattle.ioc_write.proofs.Names.{later_more, later_within}
use Rattle.ioc_write.proofs.keys.last_dot.Goals as goal

pub loop-at-preserved : goal.loop-at-preserved
loop-at-preserved c = record {
  same = later_more c.args.bytes.now c.loop-at.at c.loop-at.last c.dot_or-last.result c.loop-at-test.true c.dot_or-last.ensures ∙ c.loop-at.invariant.same;
  within = later_within c.loop-at.at (length c.args.bytes.now) (get_or c.args.bytes.now c.loop-at.at 0) c.loop-at.last c.dot_or-last.result c.loop-at-test.true c.dot_or-last.ensures c.loop-at.invariant.within;
}
