use Rattle.std.proofs.Common.{◌*◌, arith}
use Rattle.std.proofs.lemmas.Nat.{mul-le}
use Rattle.i2s_pll.proofs.clocks.periods.Goals as goal

pub returns-clause-most : goal.returns-clause-most
returns-clause-most c =
    let k = mul-le c.args.i.m c.args.x.r 63 7 (omega arith) (omega arith) in
    let h = mul-le (c.args.i.m * c.args.x.r * 256) c.divider.result 112896 511 (omega (arith, k)) (omega arith) in
    omega (arith, h)
