use Rattle.std.proofs.Common.{Err, ◌≡◌, ◌++◌, ℕ, List, subst}
use Rattle.std.specs.Prelude.{codes, decimal}
use Rattle.std.proofs.lemmas.Result.{IfOk-weaker}
use Rattle.refusal.proofs.RefusalLemmas.{refuses_with}
use Rattle.answers.specs.Said.{Says}
use Rattle.answers.specs.declared.answer.Status.TheVariants.{AnswersRefused}
use Rattle.reg_machine.specs.declared.op.Answer as flags
use Rattle.reg_trace.specs.Reading.{answers_of}
use Rattle.reg_trace.specs.declared.fault.AnswerFault.TheVariants as fault
use Rattle.trace_answer.specs.Due.{OfRun, said, unsaid}
use Rattle.trace_answer.proofs.answer.traced.Goals as goal

pub returns-in-Ok : goal.returns-in-Ok
returns-in-Ok c =
    IfOk-weaker c.shown.result _ _
    (λ a due. said c.in-Ok.list.items c.in-Ok.ensures (subst (λ (xs : List flags.Answer). OfRun c.args.t.now c.args.want.now c.args.ops.now xs a) c.as_slice.ensures.value due)) c.shown.ensures

pub returns-in-Err-Fault : goal.returns-in-Err-Fault
returns-in-Err-Fault c =
    let read = answers_of c.args.answers.now in
    let refused : read ≡ Err (fault.Line c.answers_line.result) = refuses_with read c.in-Err-Fault.field-0 c.in-Err-Fault.fault _ c.in-Err-Fault.field-0-is c.answers_line.ensures c.in-Err-Fault.ensures in
    IfOk-weaker c.counts.result _ _ (λ a says. unsaid c.answers_line.result refused (subst (λ (n : ℕ). Says a AnswersRefused (codes "answers: line " ++ decimal n)) c.widened.ensures says)) c.counts.ensures
