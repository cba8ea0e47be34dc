use Rattle.refutation.proofs.ConverseLemmas.{read_back}
use Rattle.refutation.proofs.FewLemmas.{few_nodes}
use Rattle.refutation.proofs.laws.read_is_written.Goals as goal

pub returns : goal.returns
returns c = record { spells = read_back; few = few_nodes }
