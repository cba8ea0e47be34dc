use Rattle.std.proofs.Common.{length, ◌-◌}
use Rattle.init_gen.proofs.PartLemmas.{OpsSoFar}
use Rattle.init_gen.proofs.pins.push_pins.Given as goal

abbrev pub invariant-loop-p : goal.invariant-loop-p
invariant-loop-p l = OpsSoFar l.fn.ops.items l.pins l.p l.all.items

abbrev pub decreases-loop-p : goal.decreases-loop-p
decreases-loop-p l = length l.pins - l.p
