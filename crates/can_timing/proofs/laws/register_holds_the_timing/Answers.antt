use Rattle.std.proofs.Common.{arith}
use Rattle.can_timing.proofs.laws.register_holds_the_timing.Goals as goal

pub returns : goal.returns
returns c = λ t r. record {
  brp = omega (arith, r.brp.0, r.brp.1);
  between = omega (arith, r.brp.0, r.brp.1);
  bs1 = omega (arith, r.brp.1, r.bs1.0, r.bs1.1);
  bs2 = omega (arith, r.brp.1, r.bs1.1, r.bs2.0, r.bs2.1);
  above = omega (arith, r.brp.1, r.bs1.1, r.bs2.1);
}
