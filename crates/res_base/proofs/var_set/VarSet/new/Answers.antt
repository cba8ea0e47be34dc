use Rattle.res_base.proofs.VarSetLemmas.{empty_set}
use Rattle.res_base.proofs.var_set.VarSet.new.Goals as goal

pub returns : goal.returns
returns c v = empty_set v
