use Rattle.clock_limits.proofs.LeastLemmas.{broken_is_least}
use Rattle.clock_limits.proofs.laws.broken_is_least.Goals as goal

pub returns : goal.returns
returns c = broken_is_least
