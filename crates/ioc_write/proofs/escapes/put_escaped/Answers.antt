use Rattle.std.proofs.Common.{◌∙◌}
use Rattle.ioc_write.proofs.Names.{escaped_more}
use Rattle.ioc_write.proofs.escapes.put_escaped.Goals as goal

pub loop-b-preserved : goal.loop-b-preserved
loop-b-preserved c = escaped_more c.loop-b.out.items c.put_escaped_byte.new.out.items c.args.name.now c.loop-b.b-index c.loop-b-test.true c.in_ok-put_escaped_byte.ensures ∙ c.loop-b.invariant
