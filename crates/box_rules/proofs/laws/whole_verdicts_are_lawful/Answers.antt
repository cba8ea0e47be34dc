use Rattle.box_rules.proofs.WholeLemmas.{whole_lawful}
use Rattle.box_rules.proofs.laws.whole_verdicts_are_lawful.Goals as goal

pub returns : goal.returns
returns c = whole_lawful
