use Rattle.problem.proofs.MeetsLemmas.{meets_says, says_meets}
use Rattle.problem.proofs.laws.meets_is_every_limit.Goals as goal

pub returns : goal.returns
returns c p at = (meets_says p at, says_meets p at)
