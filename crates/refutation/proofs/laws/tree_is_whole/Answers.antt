use Rattle.refutation.proofs.TreeLemmas.{whole_tree}
use Rattle.refutation.proofs.laws.tree_is_whole.Goals as goal

pub returns : goal.returns
returns c = whole_tree
