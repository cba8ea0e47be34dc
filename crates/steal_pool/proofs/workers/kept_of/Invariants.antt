use Rattle.std.proofs.Common.{◌≡◌, take}
use Rattle.steal_worker.specs.Walks.{leaf_ranks}
use Rattle.steal_pool.proofs.workers.kept_of.Given as goal

abbrev pub invariant-loop-entry : goal.invariant-loop-entry
invariant-loop-entry l = l.kept ≡ leaf_ranks (take l.entry-index l.closed)
