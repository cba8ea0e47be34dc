use Rattle.std.proofs.Common.{◌≡◌, ◌+◌, ◌*◌, ℕ, subst, arith}
use Rattle.res_base.specs.Fraction.{over, whole}
use Rattle.i2s_pll.specs.Walk.{IsBest, IsSeen}
use Rattle.i2s_pll.proofs.WalkLemmas.{none_yet}
use Rattle.i2s_pll.proofs.search.best_among.Goals as goal

pub loop-n-init : goal.loop-n-init
loop-n-init c = let q = c.args.q.now in none_yet q.limits (over (whole q.input.hertz) q.input.m) q.rate c.args.least

pub returns : goal.returns
returns c =
    let q = c.args.q.now in
    let input = over (whole q.input.hertz) q.input.m in
    let last : c.loop-n.n ≡ c.args.most + 1 = omega arith in
    subst (λ (n : ℕ). IsBest input q.rate (IsSeen q.limits input c.args.least (n * 8 + 2)) c.loop-n.best) last c.loop-n.invariant
