use Rattle.best_word.specs.Handles.{IsSeatOf}
use Rattle.steal_worker.specs.Jobs.{Works, IsSameJob}
use Rattle.steal_worker.specs.Walks.{in_hand}
use Rattle.steal_worker.proofs.worker.work.Given as goal

abbrev pub invariant-loop : goal.invariant-loop
invariant-loop g l = record {
  seat : IsSeatOf l.word l.job.walker.seat;
  fits : g.J.Judge.fits l.j l.job.walker.scratch;
  same : IsSameJob l.initial.job l.job;
  works : Works (g.J.Judge.meaning l.j) (in_hand l.busy l.place) l.job;
}
