use Rattle.std.proofs.Common.{rules}
use Rattle.c_print.proofs.FormLemmas.{NoWrite, write_no_value, write_no_end}
use Rattle.c_print.proofs.prefix.write_at.Goals as goal

pub returns-in_err-value : goal.returns-in_err-value
returns-in_err-value c = let none : NoWrite c.args.text.now = write_no_value c.args.text.now c.in_ok-reg.reg c.in_ok-reg.rest.now c.in_ok-reg.ensures c.in_err-value.ensures in search rules

pub returns-in_err-rest : goal.returns-in_err-rest
returns-in_err-rest c =
    let none : NoWrite c.args.text.now =
    write_no_end c.args.text.now c.in_ok-reg.reg c.in_ok-reg.rest.now c.in_ok-reg.ensures c.in_ok-value.value c.in_ok-value.rest.now c.in_ok-value.ensures c.in_err-rest.ensures in
    search rules
