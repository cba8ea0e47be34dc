use Rattle.ioc_lines.proofs.LineLemmas.{cr_line, entry_reads}
use Rattle.ioc_lines.proofs.NameLemmas.{name_read}
use Rattle.ioc_lines.proofs.laws.names_are_read_back.Goals as goal

pub returns-clause-name : goal.returns-clause-name
returns-clause-name c = λ name. name_read name

pub returns-clause-line : goal.returns-clause-line
returns-clause-line c = λ key value some named short. entry_reads key value some named short

pub returns-clause-without_cr : goal.returns-clause-without_cr
returns-clause-without_cr c = λ says r. cr_line says r
