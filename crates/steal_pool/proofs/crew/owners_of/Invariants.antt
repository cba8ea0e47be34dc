use Rattle.std.proofs.Common.{◌≡◌, length}
use Rattle.res_base.specs.Lists.{Each}
use Rattle.steal_pool.specs.Crews.{IsFresh}
use Rattle.steal_pool.proofs.crew.owners_of.Given as goal

abbrev pub invariant-loop : goal.invariant-loop
invariant-loop l = (length l.owners.items ≡ l.counter) × Each (IsFresh 0) l.owners.items
