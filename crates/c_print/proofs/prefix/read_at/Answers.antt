use Rattle.std.proofs.Common.{rules}
use Rattle.c_print.proofs.FormLemmas.{NoRead, read_no_end}
use Rattle.c_print.proofs.prefix.read_at.Goals as goal

pub returns-in_err-rest : goal.returns-in_err-rest
returns-in_err-rest c = let none : NoRead c.args.text.now = read_no_end c.args.text.now c.in_ok-reg.reg c.in_ok-reg.rest.now c.in_ok-reg.ensures c.in_err-rest.ensures in search rules
