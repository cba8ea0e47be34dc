use Rattle.tree_check.proofs.FirstLemmas.{is_first, first_is}
use Rattle.tree_check.proofs.laws.fault_is_the_first.Goals as goal

pub returns : goal.returns
returns c = λ m bound nodes number. (is_first m bound nodes number, first_is m bound nodes number)
