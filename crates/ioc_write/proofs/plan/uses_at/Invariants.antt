use Rattle.std.proofs.Common.{◌≡◌, ◌++◌, drop}
use Rattle.res_model.specs.Placement.{uses_at}
use Rattle.ioc_write.proofs.plan.uses_at.Given as goal

abbrev pub invariant-loop-k : goal.invariant-loop-k
invariant-loop-k l = l.found.items ++ uses_at (drop l.k l.values) (drop l.k l.at) ≡ uses_at l.values l.at
