use Rattle.std.proofs.lemmas.Result.{IfOk-weaker}
use Rattle.resolver.proofs.StatusLemmas.{of_can}
use Rattle.resolver.proofs.on_homes.timed.Goals as goal

pub returns-clause-status : goal.returns-clause-status
returns-clause-status c = IfOk-weaker c.answer.result _ _ (λ a due. of_can _ a due) c.answer.ensures
