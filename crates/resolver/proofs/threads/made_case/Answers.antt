use Rattle.std.proofs.lemmas.Result.{IfOk-weaker}
use Rattle.case_rules.specs.CaseProblem.{case_problem}
use Rattle.resolver.proofs.CaseLemmas.{case_due}
use Rattle.resolver.proofs.StatusLemmas.{of_case}
use Rattle.resolver.proofs.threads.made_case.Goals as goal

pub returns-clause-due : goal.returns-clause-due
returns-clause-due g c = IfOk-weaker c.of_texts.result _ _ (λ a due. case_due c.args.number a due) c.of_texts.ensures

pub returns-clause-status : goal.returns-clause-status
returns-clause-status g c = IfOk-weaker c.of_texts.result _ _ (λ a due. of_case c.args.number (case_problem c.args.number) a (case_due c.args.number a due)) c.of_texts.ensures
