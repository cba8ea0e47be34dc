use Rattle.choice_rank.proofs.LeastLemmas.{ranked, unranked}
use Rattle.choice_rank.proofs.least.least_of.Goals as goal

pub returns-clause-least : goal.returns-clause-least
returns-clause-least c = λ legal answer. unranked c.args.shape.now legal c.args.rank c.in_ok-at.at.items answer c.in_ok-at.ensures.choice c.in_ok-at.ensures.index

pub returns-clause-rank : goal.returns-clause-rank
returns-clause-rank c = λ legal answer. ranked c.args.shape.now legal c.args.rank c.in_ok-at.at.items answer c.in_ok-at.ensures.choice c.in_ok-at.ensures.index
