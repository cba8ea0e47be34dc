use Rattle.refutation.proofs.AgainLemmas.{read_again}
use Rattle.refutation.proofs.laws.written_is_read.Goals as goal

pub returns : goal.returns
returns c = read_again
