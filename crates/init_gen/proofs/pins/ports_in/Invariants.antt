use Rattle.init_gen.proofs.PartLemmas.{PortsSoFar}
use Rattle.init_gen.proofs.pins.ports_in.Given as goal

abbrev pub invariant-loop-p : goal.invariant-loop-p
invariant-loop-p l = PortsSoFar l.pins l.p l.mask

abbrev pub decreases-loop-p : goal.decreases-loop-p
decreases-loop-p l = l.p
