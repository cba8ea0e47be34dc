use Rattle.std.proofs.lemmas.Result.{IfOk-weaker}
use Rattle.refusal.proofs.RefusalLemmas.{fault_is}
use Rattle.dma_rules.specs.Wanted.{IsRefused}
use Rattle.resolver.specs.Requests.{refused, wanted}
use Rattle.resolver.proofs.StatusLemmas.{of_request, of_want}
use Rattle.resolver.proofs.streams.requested.Goals as goal

pub returns-in-Ok-clause-due : goal.returns-in-Ok-clause-due
returns-in-Ok-clause-due g c = IfOk-weaker c.dma_answer.result _ _ (λ a due. wanted c.in-Ok.want c.in-Ok.ensures.wanted due) c.dma_answer.ensures

pub returns-in-Ok-clause-status : goal.returns-in-Ok-clause-status
returns-in-Ok-clause-status g c = IfOk-weaker c.dma_answer.result _ _ (λ a due. of_want c.in-Ok.want a due) c.dma_answer.ensures

pub returns-in-Err-Fault-clause-due : goal.returns-in-Err-Fault-clause-due
returns-in-Err-Fault-clause-due g c =
    let first = fault_is (IsRefused c.args.table.now c.args.words.now) c.in-Err-Fault.field-0 c.in-Err-Fault.fault _ c.in-Err-Fault.field-0-is c.number_of.ensures c.in-Err-Fault.ensures.refused in
    IfOk-weaker c.counts.result _ _ (λ a says. refused c.number_of.result first says) c.counts.ensures

pub returns-in-Err-Fault-clause-status : goal.returns-in-Err-Fault-clause-status
returns-in-Err-Fault-clause-status g c = IfOk-weaker c.counts.result _ _ (λ a says. of_request a _ says) c.counts.ensures
