use Rattle.pin_rules.proofs.CostLemmas.{needs_are_free, others_pay}
use Rattle.pin_rules.proofs.laws.needs_alone_are_free.Goals as goal

pub returns-clause-needs : goal.returns-clause-needs
returns-clause-needs c = needs_are_free

pub returns-clause-others : goal.returns-clause-others
returns-clause-others c = others_pay
