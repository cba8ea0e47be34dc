use Rattle.std.proofs.Common.{◌∙◌, arith}
use Rattle.res_base.proofs.VarSetLemmas.{size_is, count_le}
use Rattle.res_base.proofs.var_set.VarSet.len.Goals as goal

pub overflow_add-count : goal.overflow_add-count
overflow_add-count c = omega (arith, count_le c.args.self.now c.loop-v.v)

pub returns : goal.returns
returns c = c.loop-v.invariant ∙ size_is c.args.self.now c.loop-v.v (omega arith)
