use Rattle.clock_limits.proofs.SayLemmas.{tests_tell}
use Rattle.clock_limits.proofs.laws.tests_are_right.Goals as goal

pub returns : goal.returns
returns c = tests_tell
