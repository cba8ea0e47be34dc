use Rattle.ioc_write.specs.Plans.{AreFates}
use Rattle.ioc_write.proofs.fate.fates_of.Given as goal

abbrev pub invariant-loop-pin : goal.invariant-loop-pin
invariant-loop-pin l = AreFates l.signals l.uses l.fates.items l.pin
