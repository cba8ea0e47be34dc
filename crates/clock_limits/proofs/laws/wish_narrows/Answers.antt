use Rattle.clock_limits.proofs.WishLemmas.{out_of_reach, wish_narrows}
use Rattle.clock_limits.proofs.laws.wish_narrows.Goals as goal

pub returns-clause-out_of_reach : goal.returns-clause-out_of_reach
returns-clause-out_of_reach c = out_of_reach

pub returns-clause-narrows : goal.returns-clause-narrows
returns-clause-narrows c = wish_narrows
