use Rattle.ioc_write.proofs.BackLemmas.{value_read}
use Rattle.ioc_write.proofs.laws.values_are_read_back.Goals as goal

pub returns : goal.returns
returns c = λ choice r v. value_read choice r v
