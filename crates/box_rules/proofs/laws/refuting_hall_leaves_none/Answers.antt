use Rattle.box_rules.proofs.LawLemmas.{hall_none}
use Rattle.box_rules.proofs.laws.refuting_hall_leaves_none.Goals as goal

pub returns : goal.returns
returns c = hall_none
