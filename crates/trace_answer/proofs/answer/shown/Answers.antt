use Rattle.std.proofs.Common.{Err, ◌≡◌, List, ℕ, ap, refl}
use Rattle.std.proofs.lemmas.Result.{IfOk-weaker}
use Rattle.refusal.proofs.RefusalLemmas.{refuses_with}
use Rattle.answers.specs.Said.{answered}
use Rattle.answers.specs.declared.answer.Status.TheVariants.{Done}
use Rattle.reg_trace.specs.Trace.{trace_of}
use Rattle.reg_trace.specs.declared.fault.TraceFault.{TraceFault}
use Rattle.reg_trace.specs.declared.fault.TraceFault.TheVariants as fault
use Rattle.trace_answer.specs.Due.{long, shown}
use Rattle.trace_answer.proofs.answer.shown.Goals as goal

only_long : (f : TraceFault) → f ≡ fault.Long
only_long fault.Long = refl

pub returns-in-Ok : goal.returns-in-Ok
returns-in-Ok c = shown c.in-Ok.text.items c.in-Ok.ensures (ap (λ (x : List ℕ). answered Done x) c.of.ensures)

pub returns-in-Err-Fault-Long : goal.returns-in-Err-Fault-Long
returns-in-Err-Fault-Long c =
    let read = trace_of c.args.t.now c.args.want.now c.args.ops.now c.args.answers.now in
    let refused : read ≡ Err fault.Long = refuses_with read c.in-Err-Fault-Long.field-0 c.in-Err-Fault-Long.field-0-0 _ c.in-Err-Fault-Long.field-0-is (only_long c.in-Err-Fault-Long.field-0-0) c.in-Err-Fault-Long.ensures in
    IfOk-weaker c.says.result _ _ (λ a says. long refused says) c.says.ensures
