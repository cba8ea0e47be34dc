use Rattle.search_api.specs.Places.{paths_of, work_of}
use Rattle.refutation.specs.Making.{Placed}
use Rattle.refutation.proofs.make.canonical.Given as goal

abbrev pub invariant-loop-place : goal.invariant-loop-place
invariant-loop-place l = Placed l.s l.o.best l.o.closed l.making.pending.items l.making.nodes

abbrev pub decreases-loop-place : goal.decreases-loop-place
decreases-loop-place l = work_of l.s (paths_of l.making.pending.items)
