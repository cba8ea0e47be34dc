use Rattle.std.proofs.Common.{◌≡◌, drop}
use Rattle.ioc_write.specs.WriteBack.{home_use}
use Rattle.ioc_write.proofs.fate.home_use.Given as goal

abbrev pub invariant-loop-k : goal.invariant-loop-k
invariant-loop-k l = home_use (drop l.k l.signals) (drop l.k l.uses) l.pin ≡ home_use l.signals l.uses l.pin
