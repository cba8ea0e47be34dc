use Rattle.std.proofs.Common.{◌+◌, ◌*◌}
use Rattle.res_base.specs.Fraction.{over, whole}
use Rattle.i2s_pll.specs.Walk.{IsBest, IsSeen}
use Rattle.i2s_pll.proofs.search.with_n.Given as goal

abbrev pub invariant-loop-r : goal.invariant-loop-r
invariant-loop-r l = IsBest (over (whole l.q.input.hertz) l.q.input.m) l.q.rate (IsSeen l.q.limits (over (whole l.q.input.hertz) l.q.input.m) l.least (l.n * 8 + l.r)) l.best
