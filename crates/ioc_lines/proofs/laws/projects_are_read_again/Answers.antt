use Rattle.ioc_lines.proofs.ProjectLemmas.{read_again}
use Rattle.ioc_lines.proofs.laws.projects_are_read_again.Goals as goal

pub returns : goal.returns
returns c = λ t opts ioc out p ps w e a. read_again t opts ioc out p ps w e a
