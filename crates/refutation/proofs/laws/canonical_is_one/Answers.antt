use Rattle.refutation.proofs.OneLemmas.{same_nodes}
use Rattle.refutation.proofs.laws.canonical_is_one.Goals as goal

pub returns : goal.returns
returns c = same_nodes
