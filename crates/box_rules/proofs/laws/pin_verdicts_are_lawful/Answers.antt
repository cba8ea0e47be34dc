use Rattle.box_rules.proofs.LawLemmas.{pin_lawful}
use Rattle.box_rules.proofs.laws.pin_verdicts_are_lawful.Goals as goal

pub returns : goal.returns
returns c = pin_lawful
