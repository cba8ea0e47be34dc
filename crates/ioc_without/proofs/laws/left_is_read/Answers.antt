use Rattle.ioc_without.proofs.StartLemmas.{left_is_read}
use Rattle.ioc_without.proofs.laws.left_is_read.Goals as goal

pub returns : goal.returns
returns c = left_is_read
