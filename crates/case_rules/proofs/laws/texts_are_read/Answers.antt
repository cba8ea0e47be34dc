use Rattle.case_rules.proofs.ProjectLemmas.{lines_read, project_read}
use Rattle.case_rules.proofs.TableLemmas.{table_read}
use Rattle.case_rules.proofs.laws.texts_are_read.Goals as goal

pub returns : goal.returns
returns c = record { table = table_read; lines = lines_read; project = project_read }
