use Rattle.std.proofs.Common.{rules}
use Rattle.reg_map.specs.Registers.{IsRegister}
use Rattle.c_print.specs.Prefixes.{BeginsNone}
use Rattle.c_print.proofs.RegisterLemmas.{register_after, register_other}
use Rattle.c_print.proofs.prefix.register_at.Goals as goal

pub returns-in_err-reg : goal.returns-in_err-reg
returns-in_err-reg c =
    let none : BeginsNone (register_after c.args.before) IsRegister c.args.text.now = register_other c.args.before c.args.text.now c.in_ok-at.at c.in_ok-at.rest.now c.in_ok-at.ensures c.in_err-reg.ensures.none in
    search rules
