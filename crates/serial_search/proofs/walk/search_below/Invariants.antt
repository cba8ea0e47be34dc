use Rattle.search_api.specs.Places.{paths_of, work_of}
use Rattle.serial_search.specs.Going.{Walks}
use Rattle.serial_search.proofs.walk.search_below.Given as goal

abbrev pub invariant-loop-place : goal.invariant-loop-place
invariant-loop-place g l = g.J.Judge.fits l.j l.scratch × Walks (g.J.Judge.meaning l.j) l.walk.pending.items l.walk.best l.walk.kept l.walk.closed

abbrev pub decreases-loop-place : goal.decreases-loop-place
decreases-loop-place g l = work_of (g.J.Judge.meaning l.j).shape (paths_of l.walk.pending.items)
