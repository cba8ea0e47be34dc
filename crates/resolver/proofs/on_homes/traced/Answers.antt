use Rattle.std.proofs.Common.{subst}
use Rattle.std.proofs.lemmas.Result.{IfOk-weaker}
use Rattle.home_target.specs.Homes.{home_target}
use Rattle.reg_machine.specs.declared.state.Target.{Target}
use Rattle.trace_answer.specs.Due.{OfTrace}
use Rattle.resolver.proofs.StatusLemmas.{of_trace}
use Rattle.resolver.proofs.on_homes.traced.Goals as goal

pub returns-clause-due : goal.returns-clause-due
returns-clause-due c =
    IfOk-weaker c.trace_answer.result _ _ (λ a due. subst (λ (w : Target). OfTrace c.args.tables w c.args.c.now c.args.answers.now a) c.in_ok-want.ensures.target due) c.trace_answer.ensures

pub returns-clause-status : goal.returns-clause-status
returns-clause-status c = IfOk-weaker c.trace_answer.result _ _ (λ a due. of_trace _ _ _ _ a due) c.trace_answer.ensures
