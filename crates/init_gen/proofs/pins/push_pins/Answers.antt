use Rattle.std.proofs.Common.{arith}
use Rattle.init_gen.proofs.PartLemmas.{ops_one}
use Rattle.init_gen.proofs.pins.push_pins.Goals as goal

pub loop-p-preserved : goal.loop-p-preserved
loop-p-preserved c = ops_one c.args.ops.items c.args.pins.now c.loop-p.p c.loop-p.all.items c.in_ok-all.all.items (omega arith) c.in_ok-all.ensures c.loop-p.invariant
