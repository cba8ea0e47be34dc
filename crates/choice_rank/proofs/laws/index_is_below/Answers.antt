use Rattle.choice_rank.proofs.ChoiceLemmas.{index_lt}
use Rattle.choice_rank.proofs.laws.index_is_below.Goals as goal

pub returns : goal.returns
returns c = index_lt
