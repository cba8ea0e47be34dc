use Rattle.clock_limits.proofs.RefutingLemmas.{refuting_is_broken}
use Rattle.clock_limits.proofs.laws.refuting_is_broken.Goals as goal

pub returns : goal.returns
returns c = refuting_is_broken
