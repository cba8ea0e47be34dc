use Rattle.std.proofs.lemmas.Result.{IfOk-weaker}
use Rattle.resolver.proofs.StatusLemmas.{of_table}
use Rattle.resolver.proofs.streams.dma.Goals as goal

pub returns-in-Err-Fault-clause-status : goal.returns-in-Err-Fault-clause-status
returns-in-Err-Fault-clause-status g c = IfOk-weaker c.refused_table.result _ _ (λ a said. of_table a _ said) c.refused_table.ensures
