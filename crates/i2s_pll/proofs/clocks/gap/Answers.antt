use Rattle.std.proofs.Common.{arith}
use Rattle.std.proofs.lemmas.Nat.{mul-le}
use Rattle.i2s_pll.proofs.clocks.gap.Goals as goal

pub overflow_mul-rate : goal.overflow_mul-rate
overflow_mul-rate c =
    let k = mul-le c.args.rate c.periods.result 192000 57689856 (omega arith) (omega arith) in
    omega (arith, k)

pub returns-clause-small : goal.returns-clause-small
returns-clause-small c =
    let k = mul-le c.args.rate c.periods.result 192000 57689856 (omega arith) (omega arith) in
    let h = mul-le c.args.i.hertz c.args.x.n 4294967296 65536 (omega arith) (omega arith) in
    omega (arith, k, h)
