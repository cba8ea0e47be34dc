use Rattle.std.proofs.Common.{◌+◌, ◌*◌}
use Rattle.res_base.specs.Fraction.{over, whole}
use Rattle.i2s_pll.specs.Walk.{IsBest, IsSeen}
use Rattle.i2s_pll.proofs.search.best_among.Given as goal

abbrev pub invariant-loop-n : goal.invariant-loop-n
invariant-loop-n l = IsBest (over (whole l.q.input.hertz) l.q.input.m) l.q.rate (IsSeen l.q.limits (over (whole l.q.input.hertz) l.q.input.m) l.least (l.n * 8 + 2)) l.best
