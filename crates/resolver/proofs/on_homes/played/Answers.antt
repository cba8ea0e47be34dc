use Rattle.std.proofs.lemmas.Result.{IfOk-weaker}
use Rattle.resolver.proofs.StatusLemmas.{of_i2s}
use Rattle.resolver.proofs.on_homes.played.Goals as goal

pub returns-clause-status : goal.returns-clause-status
returns-clause-status c = IfOk-weaker c.i2s_answer.result _ _ (λ a due. of_i2s _ _ _ _ a due) c.i2s_answer.ensures
