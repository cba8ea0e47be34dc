-- The table and the project that two texts say, or what is said of the first fault.
use Rattle.std.specs.Prelude.{ℕ, List, [], ◌∷◌, ◌++◌, Bool, Result, Ok, Err}
use Rattle.answers.specs.Said.{answered}
use Rattle.answers.specs.declared.answer.Answer.{Answer}
use Rattle.answers.specs.declared.answer.Status.{Status}
use Rattle.answers.specs.declared.answer.Status.TheVariants.{TableRefused, ProjectRefused}
use Rattle.ioc_project.specs.Project.{project_of}
use Rattle.ioc_text.specs.Lines.{ioc_of}
use Rattle.ioc_text.specs.declared.line.Line.{Line}
use Rattle.mcu_tables.specs.Table.{tables_of}
use Rattle.project_reading.specs.Refusals.{table_refusal, text_refusal, project_refusal}
use Rattle.res_model.specs.Steps.{◌>>=◌}
use Rattle.res_model.specs.declared.opts.Opts.{Opts}
use Rattle.res_model.specs.declared.project.Project.{Project}
use Rattle.res_model.specs.declared.table.TableParts.{TableParts}

-- what is read, or what is said of the fault
abbrev pub or_says : {X E : Type 0} → Status → (E → List ℕ) → Result X E → Result X Answer
or_says status said (Ok x) = Ok x
or_says status said (Err fault) = Err (answered status (said fault ++ 10 ∷ []))

-- the project that lines say under a table and the options, or what is said of its first fault; clocks says that clock
-- variables are in play
abbrev pub project_from_lines : Opts → Bool → TableParts → List Line → Result (TableParts × Project) Answer
project_from_lines opts clocks t ioc = do
  p ← or_says ProjectRefused project_refusal (project_of t ioc opts clocks)
  Ok (t, p)

-- the same of a project's text
abbrev pub project_from_text : Opts → Bool → TableParts → List ℕ → Result (TableParts × Project) Answer
project_from_text opts clocks t text = do
  ioc ← or_says ProjectRefused text_refusal (ioc_of text)
  project_from_lines opts clocks t ioc

-- the table and the project that two texts say, or what is said of the first fault: of the table, of the project's
-- text, of the project
abbrev pub project_from : Opts → Bool → List ℕ → List ℕ → Result (TableParts × Project) Answer
project_from opts clocks table text = do
  t ← or_says TableRefused table_refusal (tables_of table)
  project_from_text opts clocks t text
