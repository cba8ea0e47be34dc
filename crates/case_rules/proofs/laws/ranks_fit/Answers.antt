use Rattle.case_rules.proofs.ProblemLemmas.{narrow}
use Rattle.case_rules.proofs.laws.ranks_fit.Goals as goal

pub returns : goal.returns
returns c = narrow
