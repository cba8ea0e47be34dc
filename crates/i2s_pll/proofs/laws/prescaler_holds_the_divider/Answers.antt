use Rattle.std.proofs.Common.{arith}
use Rattle.i2s_pll.proofs.laws.prescaler_holds_the_divider.Goals as goal

pub returns : goal.returns
returns c = λ x i. record {
  div = omega (arith, i.dividers.div.1);
  odd = omega (arith, i.dividers.div.1, i.dividers.odd);
  master_clock = omega (arith, i.dividers.div.1, i.dividers.odd);
}
