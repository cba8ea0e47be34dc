-- Internal: what the functions of the commands hand on.
use Rattle.std.specs.Prelude.{◌≡◌, ◌≤◌, ℕ, List, length, true, MatchResult}
use Rattle.answers.specs.declared.answer.Answer.{Answer}
use Rattle.big_case.specs.Case.{project_text, table_text}
use Rattle.case_rules.specs.Options.{case_opts}
use Rattle.problem.specs.Problem.{problem_of}
use Rattle.problem.specs.declared.parts.Part.TheVariants.{Whole}
use Rattle.res_base.specs.Lists.{Each}
use Rattle.res_model.specs.declared.opts.Opts.{Opts}
use Rattle.res_model.specs.declared.project.Project.{Project}
use Rattle.res_model.specs.declared.table.TableParts.{TableParts}
use Rattle.project_reading.specs.Reading.{project_from}
use Rattle.solver.specs.Owed.{OfCase, OfProblem}

-- so many inputs, none of which is too long
pub record AreInputs (count : ℕ) (files : List (List ℕ)) : Type 0 where
  pub count_is : length files ≡ count
  pub few : Each (λ (bytes : List ℕ). length bytes ≤ 67108864) files

-- the least choice of a made case, over the table and the project that its texts say
abbrev pub CaseTask : Opts → ℕ → TableParts → Project → Answer → Type 0
CaseTask opts number t p a = OfProblem (problem_of t p opts Whole) (OfCase number (problem_of t p opts Whole)) a

abbrev pub OfTexts : ℕ → Answer → Type 0
OfTexts number a = MatchResult (project_from case_opts true (table_text number) project_text) (λ read. CaseTask case_opts number read.0 read.1 a) (λ refusal. a ≡ refusal)
