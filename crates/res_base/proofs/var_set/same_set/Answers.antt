use Rattle.res_base.proofs.VarSetLemmas as sets
use Rattle.res_base.proofs.var_set.same_set.Goals as goal

pub returns : goal.returns
returns c = sets.same_set
