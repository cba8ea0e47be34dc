use Rattle.search_core.specs.Fits.{Fits}
use Rattle.core_rows.proofs.events.happen.Given as goal

abbrev pub invariant-loop-k : goal.invariant-loop-k
invariant-loop-k g l = Fits (g.J.Judge.meaning l.judge) l.core × g.J.Judge.fits l.judge l.scratch
