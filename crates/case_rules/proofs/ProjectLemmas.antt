-- The project's text is read.
use Rattle.std.proofs.Common.{◌≡◌, ◌≤◌, ℕ, length, true, refl, lit≤, Ok}
use Rattle.big_case.specs.Case.{project_text}
use Rattle.case_rules.specs.CaseProject.{case_lines, case_project}
use Rattle.case_rules.specs.CaseTable.{case_table, table_for}
use Rattle.case_rules.specs.Options.{case_opts}
use Rattle.case_rules.proofs.OnLiterals.{project_text_on_literals, table_on_literals, lines_on_literals, project_on_literals, lines_reader_on_literals, project_reader_on_literals}
use Rattle.ioc_text.specs.Lines.{ioc_of}
use Rattle.ioc_project.specs.Project.{project_of}

pub short : length project_text ≤ 67108864
unfolding project_text_on_literals
short = lit≤ tt

pub lines_read : ioc_of project_text ≡ Ok case_lines
unfolding project_text_on_literals lines_on_literals lines_reader_on_literals
lines_read = refl

-- of the needed signals the project asks only that they have rows, so the number does not count
read_for : (a : ℕ) → project_of (table_for a) case_lines case_opts true ≡ Ok case_project
unfolding table_on_literals lines_on_literals project_on_literals project_reader_on_literals
read_for a = refl

pub project_read : (number : ℕ) → project_of (case_table number) case_lines case_opts true ≡ Ok case_project
unfolding case_table
project_read number = read_for _
