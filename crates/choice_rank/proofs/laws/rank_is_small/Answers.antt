use Rattle.choice_rank.proofs.ChoiceLemmas.{rank_below}
use Rattle.choice_rank.proofs.laws.rank_is_small.Goals as goal

pub returns : goal.returns
returns c = rank_below
