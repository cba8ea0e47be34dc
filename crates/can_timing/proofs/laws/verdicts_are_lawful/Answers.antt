use Rattle.can_timing.specs.Lawful.{can_lawful}
use Rattle.can_timing.proofs.laws.verdicts_are_lawful.Goals as goal

pub returns : goal.returns
returns c = λ q. can_lawful q
