use Rattle.std.proofs.Common.{◌<◌, ◌+◌, ◌*◌, Option, subst, arith, rules}
use Rattle.res_base.specs.Fraction.{over, whole}
use Rattle.i2s_pll.specs.declared.choice.I2s.{I2s}
use Rattle.i2s_pll.specs.Walk.{IsBest, IsSeen}
use Rattle.i2s_pll.proofs.WalkLemmas.{better, first, kept}
use Rattle.i2s_pll.proofs.search.with_r.Goals as goal

pub returns-then-not-keeps_bounds : goal.returns-then-not-keeps_bounds
returns-then-not-keeps_bounds c =
    let q = c.args.q.now in
    kept q.limits (over (whole q.input.hertz) q.input.m) q.rate c.args.least c.args.n c.args.r c.requires.r.1 c.args.best
    (λ k. let e = c.if-not-keeps_bounds.ensures.1 k in absurd (cc)) c.requires.best

pub returns-in-None : goal.returns-in-None
returns-in-None c =
    let q = c.args.q.now in
    let input = over (whole q.input.hertz) q.input.m in
    let none = subst (λ (b : Option I2s). IsBest input q.rate (IsSeen q.limits input c.args.least (c.args.n * 8 + c.args.r)) b) c.in-None.is c.requires.best in
    first q.limits input q.rate c.args.least c.args.n c.args.r c.requires.r.1 c.nearest-x.result c.nearest-x.ensures (c.if-not-keeps_bounds.ensures.0 (search rules)) c.requires.low none

pub returns-in-Some : goal.returns-in-Some
returns-in-Some c =
    let q = c.args.q.now in
    let input = over (whole q.input.hertz) q.input.m in
    let some = subst (λ (b : Option I2s). IsBest input q.rate (IsSeen q.limits input c.args.least (c.args.n * 8 + c.args.r)) b) c.in-Some.is c.requires.best in
    let den : 0 < input.den = let m = q.input.m_some in omega (arith, m) in
    better q.limits input q.rate c.args.least c.args.n c.args.r c.requires.r.1 c.nearest-x.result c.nearest-x.ensures
    (c.if-not-keeps_bounds.ensures.0 (search rules)) c.requires.low den c.in-Some.y c.nearer.result some c.nearer.ensures
