use Rattle.case_rules.proofs.ProjectLemmas.{short}
use Rattle.case_rules.proofs.laws.project_is_short.Goals as goal

pub returns : goal.returns
returns c = short
