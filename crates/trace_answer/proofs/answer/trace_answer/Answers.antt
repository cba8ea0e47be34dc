use Rattle.std.proofs.Common.{◌≡◌, ◌+◌, ◌++◌, ◌∙◌, ℕ, List, Ok, Err, ap, subst}
use Rattle.std.specs.Prelude.{codes, decimal}
use Rattle.std.proofs.lemmas.Result.{IfOk-weaker}
use Rattle.refusal.proofs.RefusalLemmas.{fault_is}
use Rattle.answers.specs.Said.{Says}
use Rattle.answers.specs.declared.answer.Status.TheVariants.{CTextRefused}
use Rattle.c_print.specs.Reading.{Reads, Refuses}
use Rattle.c_print.specs.declared.fault.CFault.TheVariants as fault
use Rattle.reg_machine.specs.declared.op.Op.{Op}
use Rattle.trace_answer.specs.Due.{OfAnswers, read, unread}
use Rattle.trace_answer.specs.Part.{CPart, part_in}
use Rattle.trace_answer.proofs.answer.trace_answer.Goals as goal

pub returns-in-Ok : goal.returns-in-Ok
returns-in-Ok c =
    let part : c.part_of-before.result.1.now ≡ (part_in c.args.file.now).text = ap (λ (p : CPart). p.text) c.part_of-before.ensures.part in
    let text : Reads (part_in c.args.file.now).text (Ok c.in-Ok.ops.items) = subst (λ (t : List ℕ). Reads t (Ok c.in-Ok.ops.items)) part c.in-Ok.ensures.read in
    IfOk-weaker c.traced.result _ _
    (λ a due. read c.in-Ok.ops.items text (subst (λ (os : List Op). OfAnswers c.args.t.now c.args.want.now os c.args.answers.now a) c.as_slice-in-Ok.ensures.value due)) c.traced.ensures

pub returns-in-Err-Fault : goal.returns-in-Err-Fault
returns-in-Err-Fault c =
    let before : c.part_of-before.result.0 ≡ (part_in c.args.file.now).before = ap (λ (p : CPart). p.before) c.part_of-before.ensures.part in
    let part : c.part_of-before.result.1.now ≡ (part_in c.args.file.now).text = ap (λ (p : CPart). p.text) c.part_of-before.ensures.part in
    let line = c.c_line.result in
    let refused : Refuses c.part_of-before.result.1.now (fault.Line line) = fault_is (Refuses c.part_of-before.result.1.now) c.in-Err-Fault.field-0 c.in-Err-Fault.fault _ c.in-Err-Fault.field-0-is c.c_line.ensures c.in-Err-Fault.ensures.refused in
    let there : Reads (part_in c.args.file.now).text (Err line) = subst (λ (t : List ℕ). Reads t (Err line)) part refused in
    let number : c.in_file.result ≡ (part_in c.args.file.now).before + line = c.in_file.ensures ∙ ap (λ (n : ℕ). n + line) before in
    IfOk-weaker c.counts.result _ _ (λ a says. unread line there (subst (λ (n : ℕ). Says a CTextRefused (codes "c: line " ++ decimal n)) number says)) c.counts.ensures
