use Rattle.std.proofs.Common.{◌≡◌}
use Rattle.res_base.specs.Sums.{sum_below, one_if}
use Rattle.res_base.specs.VarSet.{in_set}
use Rattle.res_base.proofs.var_set.VarSet.len.Given as goal

abbrev pub invariant-loop-v : goal.invariant-loop-v
invariant-loop-v l = l.count ≡ sum_below l.v (λ v. one_if (in_set l.self v))
