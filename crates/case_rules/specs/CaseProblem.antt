-- The problem of a made case: both pins and clocks are to be chosen.
use Rattle.std.specs.Prelude.{ℕ}
use Rattle.case_rules.specs.CaseProject.{case_project}
use Rattle.case_rules.specs.CaseTable.{case_table}
use Rattle.case_rules.specs.Options.{case_opts}
use Rattle.problem.specs.declared.parts.Part.TheVariants.{Whole}
use Rattle.problem.specs.declared.parts.ProblemParts.{ProblemParts}
use Rattle.problem.specs.Problem.{problem_of}

abbrev pub case_problem : ℕ → ProblemParts
case_problem number = problem_of (case_table number) case_project case_opts Whole
