use Rattle.refutation.proofs.TellLemmas.{same_nodes}
use Rattle.refutation.proofs.laws.lines_tell_nodes.Goals as goal

pub returns : goal.returns
returns c = same_nodes
