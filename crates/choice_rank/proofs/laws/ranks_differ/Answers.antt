use Rattle.choice_rank.proofs.ChoiceLemmas.{rank_same}
use Rattle.choice_rank.proofs.laws.ranks_differ.Goals as goal

pub returns : goal.returns
returns c = rank_same
