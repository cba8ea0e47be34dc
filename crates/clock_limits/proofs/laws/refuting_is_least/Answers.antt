use Rattle.clock_limits.proofs.LeastLemmas.{refuting_is_least}
use Rattle.clock_limits.proofs.laws.refuting_is_least.Goals as goal

pub returns : goal.returns
returns c = refuting_is_least
