-- No reader refuses a made case, and its ranks fit: only the least choice of its problem is due.
use Rattle.std.proofs.Common.{◌≡◌, ◌∙◌, ℕ, List, true, Result, Ok, ap, subst}
use Rattle.std.specs.Prelude.{MatchResult}
use Rattle.answers.specs.declared.answer.Answer.{Answer}
use Rattle.answers.specs.declared.answer.Status.TheVariants.{TableRefused, ProjectRefused}
use Rattle.big_case.specs.Case.{project_text, table_text}
use Rattle.case_rules.specs.CaseProblem.{case_problem}
use Rattle.case_rules.specs.CaseProject.{case_lines, case_project}
use Rattle.case_rules.specs.CaseTable.{case_table}
use Rattle.case_rules.specs.Options.{case_opts}
use Rattle.case_rules.proofs.ProblemLemmas.{narrow as ranks_fit}
use Rattle.case_rules.proofs.ProjectLemmas.{lines_read, project_read}
use Rattle.case_rules.proofs.TableLemmas.{table_read}
use Rattle.choice_rank.specs.Choices.{IsNarrow}
use Rattle.ioc_project.specs.declared.fault.ProjectFault.{ProjectFault}
use Rattle.ioc_text.specs.declared.fault.IocFault.{IocFault}
use Rattle.ioc_text.specs.declared.line.Line.{Line}
use Rattle.table_members.specs.declared.fault.TableFault.{TableFault}
use Rattle.problem.specs.declared.parts.ProblemParts.{ProblemParts}
use Rattle.project_reading.specs.Reading.{or_says, project_from, project_from_lines, project_from_text}
use Rattle.project_reading.specs.Refusals.{project_refusal, table_refusal, text_refusal}
use Rattle.res_model.specs.Steps.{◌>>=◌}
use Rattle.res_model.specs.declared.project.Project.{Project}
use Rattle.res_model.specs.declared.table.TableParts.{TableParts}
use Rattle.resolver.specs.Opening.{CaseTask, OfTexts}
use Rattle.solver.specs.Owed.{OfCase, OfProblem}
use Rattle.solver.specs.Owed as owed

-- a task of a narrow problem
fitting : (p : ProblemParts) (task : Answer → Type 0) (a : Answer) → IsNarrow p.shape → OfProblem p task a → task a
fitting p task a fits (owed.wide v not_narrow first says) = absurd (not_narrow fits)
fitting p task a fits (owed.narrow fits2 asked) = asked

-- the two texts are read as the case's table and project
taken : (number : ℕ) → project_from case_opts true (table_text number) project_text ≡ Ok (case_table number, case_project)
taken number =
    let t : TableParts = case_table number in
    let project : project_from_lines case_opts true t case_lines ≡ Ok (t, case_project) =
    ap (λ (r : Result Project ProjectFault). or_says ProjectRefused project_refusal r >>= (λ (p : Project). Ok (t, p))) (project_read number) in
    let text : project_from_text case_opts true t project_text ≡ project_from_lines case_opts true t case_lines =
    ap (λ (r : Result (List Line) IocFault). or_says ProjectRefused text_refusal r >>= (λ (ioc : List Line). project_from_lines case_opts true t ioc)) lines_read in
    ap (λ (r : Result TableParts TableFault). or_says TableRefused table_refusal r >>= (λ (u : TableParts). project_from_text case_opts true u project_text)) (table_read number) ∙ text ∙ project

pub case_due : (number : ℕ) (a : Answer) → OfTexts number a → OfCase number (case_problem number) a
case_due number a asked =
    let due : CaseTask case_opts number (case_table number) case_project a =
    subst (λ (r : Result (TableParts × Project) Answer). MatchResult r (λ read. CaseTask case_opts number read.0 read.1 a) (λ refusal. a ≡ refusal)) (taken number) asked in
    fitting (case_problem number) (OfCase number (case_problem number)) a (ranks_fit number) due
