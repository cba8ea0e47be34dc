use Rattle.std.proofs.Common.{rules}
use Rattle.res_base.specs.Fraction.{over, whole}
use Rattle.i2s_pll.proofs.LeadLemmas.{first_is_nearer, second_is_nearer}
use Rattle.i2s_pll.proofs.search.nearer.Goals as goal

pub returns-then-is_as_near : goal.returns-then-is_as_near
returns-then-is_as_near c =
    let q = c.args.q.now in
    first_is_nearer (over (whole q.input.hertz) q.input.m) q.rate c.args.first c.args.second c.requires.order (c.if-is_as_near.ensures.0 (search rules))

pub returns-else-is_as_near : goal.returns-else-is_as_near
returns-else-is_as_near c =
    let q = c.args.q.now in
    second_is_nearer (over (whole q.input.hertz) q.input.m) q.rate c.args.first c.args.second c.requires.order (λ h. let e = c.if-is_as_near.ensures.1 h in absurd (cc))
