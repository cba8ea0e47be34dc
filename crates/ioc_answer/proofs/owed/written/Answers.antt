use Rattle.std.proofs.Common.{◌≡◌, Err, ap}
use Rattle.std.proofs.lemmas.Result.{IfOk-weaker}
use Rattle.refusal.proofs.RefusalLemmas.{refuses_with}
use Rattle.answers.specs.Said.{answered}
use Rattle.answers.specs.declared.answer.Status.TheVariants.{Done}
use Rattle.ioc_answer.specs.Owed.{back, long, unnumbered}
use Rattle.ioc_write.specs.WriteBack.{written_back}
use Rattle.ioc_write.specs.declared.fault.BackFault.TheVariants.{NoNumber, LongLine}
use Rattle.ioc_answer.proofs.owed.written.Goals as goal

pub returns-in-Ok : goal.returns-in-Ok
returns-in-Ok c = back c.args.at.now c.in-Ok.out.items c.requires.least c.in-Ok.ensures.written (ap (answered Done) c.of.ensures)

pub returns-in-Err-Fault-NoNumber : goal.returns-in-Err-Fault-NoNumber
returns-in-Err-Fault-NoNumber c =
    let text = written_back c.args.text.now c.args.p.now c.args.at.now in
    let refused : text ≡ Err NoNumber = refuses_with text c.in-Err-Fault-NoNumber.field-0 c.in-Err-Fault-NoNumber.field-0-0 _ c.in-Err-Fault-NoNumber.field-0-is c.in-Err-Fault-NoNumber.field-0-0-is c.in-Err-Fault-NoNumber.ensures.written in
    IfOk-weaker c.says.result _ _ (λ a says. unnumbered c.args.at.now c.requires.least refused says) c.says.ensures

pub returns-in-Err-Fault-LongLine : goal.returns-in-Err-Fault-LongLine
returns-in-Err-Fault-LongLine c =
    let text = written_back c.args.text.now c.args.p.now c.args.at.now in
    let line = c.in-Err-Fault-LongLine.line in
    let refused : text ≡ Err (LongLine line) = refuses_with text c.in-Err-Fault-LongLine.field-0 c.in-Err-Fault-LongLine.field-0-0 _ c.in-Err-Fault-LongLine.field-0-is c.in-Err-Fault-LongLine.field-0-0-is c.in-Err-Fault-LongLine.ensures.written in
    IfOk-weaker c.too_long.result _ _ (λ a says. long c.args.at.now line c.requires.least refused says) c.too_long.ensures
