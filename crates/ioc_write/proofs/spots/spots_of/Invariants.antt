use Rattle.ioc_write.specs.Plans.{AreSpots}
use Rattle.ioc_write.proofs.spots.spots_of.Given as goal

abbrev pub invariant-loop-spot : goal.invariant-loop-spot
invariant-loop-spot l = AreSpots l.pins l.spots.items l.spot
