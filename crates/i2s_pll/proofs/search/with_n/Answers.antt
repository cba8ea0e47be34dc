use Rattle.std.proofs.Common.{◌≡◌, ◌+◌, ◌*◌, ℕ, subst, arith}
use Rattle.res_base.specs.Fraction.{over, whole}
use Rattle.i2s_pll.specs.Walk.{IsBest, IsSeen}
use Rattle.i2s_pll.proofs.WalkLemmas.{row_done}
use Rattle.i2s_pll.proofs.search.with_n.Goals as goal

pub returns : goal.returns
returns c =
    let q = c.args.q.now in
    let input = over (whole q.input.hertz) q.input.m in
    let last : c.loop-r.r ≡ 8 = omega arith in
    row_done q.limits input q.rate c.args.least c.args.n c.loop-r.best
    (subst (λ (r : ℕ). IsBest input q.rate (IsSeen q.limits input c.args.least (c.args.n * 8 + r)) c.loop-r.best) last c.loop-r.invariant)
