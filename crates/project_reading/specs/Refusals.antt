-- What is said of a table, a project's text or a project that is refused.
use Rattle.std.specs.Prelude.{ℕ, List, ◌++◌, codes, decimal}
use Rattle.res_model.specs.LimitNumbers.{limit_number}
use Rattle.table_members.specs.declared.fault.TableFault.{TableFault}
use Rattle.table_members.specs.declared.fault.TableFault.TheVariants as tables
use Rattle.ioc_text.specs.declared.fault.IocFault.{IocFault}
use Rattle.ioc_text.specs.declared.fault.IocFault.TheVariants as text
use Rattle.ioc_project.specs.declared.fault.ProjectFault.{ProjectFault}
use Rattle.ioc_project.specs.declared.fault.ProjectFault.TheVariants as project

abbrev pub table_refusal : TableFault → List ℕ
table_refusal tables.NotJson = codes "tables: not json"
table_refusal (tables.Missing path) = codes "tables: missing " ++ path
table_refusal (tables.BadField path) = codes "tables: field " ++ path
table_refusal (tables.Repeated path) = codes "tables: repeated " ++ path
table_refusal (tables.ResetIllegal limit) = codes "tables: reset " ++ decimal (limit_number limit)

abbrev pub text_refusal : IocFault → List ℕ
text_refusal (text.LongLine line) = codes "project: long line " ++ decimal line
text_refusal (text.NoEquals line) = codes "project: no equals line " ++ decimal line
text_refusal (text.BadEscape line) = codes "project: escape line " ++ decimal line
text_refusal (text.TwiceKey line) = codes "project: twice line " ++ decimal line

abbrev pub project_refusal : ProjectFault → List ℕ
project_refusal (project.WrongPart line) = codes "project: part line " ++ decimal line
project_refusal (project.UnknownPin line) = codes "project: pin line " ++ decimal line
project_refusal (project.UnknownSignal line) = codes "project: signal line " ++ decimal line
project_refusal (project.UnknownNeed need) = codes "project: need " ++ decimal need
project_refusal (project.NotCandidate line) = codes "project: candidate line " ++ decimal line
project_refusal (project.BadValue line) = codes "project: value line " ++ decimal line
project_refusal (project.OutOfTable line) = codes "project: table line " ++ decimal line
project_refusal (project.TooMany count) = codes "project: too many " ++ decimal count
