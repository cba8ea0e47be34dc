-- The problem's ranks fit.
use Rattle.std.proofs.Common.{ℕ, lit≤}
use Rattle.case_rules.specs.CaseProblem.{case_problem}
use Rattle.case_rules.specs.CaseProject.{case_project}
use Rattle.case_rules.specs.CaseTable.{case_table, table_for}
use Rattle.case_rules.specs.Options.{case_opts}
use Rattle.case_rules.proofs.OnLiterals.{table_on_literals, project_on_literals}
use Rattle.choice_rank.specs.Choices.{IsNarrow}
use Rattle.problem.specs.ClockValues.{clock_domains}
use Rattle.problem.specs.Problem.{problem_of, shape_of}
use Rattle.problem.specs.declared.parts.Part.TheVariants.{Whole}
use Rattle.res_model.specs.Signals.{signal_named}
use Rattle.res_model.specs.Values.{values_of, costs_of}

-- the needed signals have two places each, so the number does not count
narrow_for : (a : ℕ) → IsNarrow (shape_of (table_for a) case_project case_opts Whole)
unfolding table_on_literals project_on_literals clock_domains shape_of signal_named values_of costs_of
narrow_for a = lit≤ tt

pub narrow : (number : ℕ) → IsNarrow (case_problem number).shape
unfolding case_table problem_of
narrow number = narrow_for _
