use Rattle.std.proofs.Common.{rules, sym, ◌∙◌}
use Rattle.c_print.proofs.FormLemmas.{NoModify, modify_no_old, modify_two, modify_no_clear, modify_no_set, modify_no_end}
use Rattle.c_print.proofs.prefix.modify_at.Goals as goal

pub returns-in_err-old : goal.returns-in_err-old
returns-in_err-old c = let none : NoModify c.args.text.now = modify_no_old c.args.text.now c.in_ok-reg.reg c.in_ok-reg.rest.now c.in_ok-reg.ensures c.in_err-old.ensures in search rules

pub returns-in_err-clear : goal.returns-in_err-clear
returns-in_err-clear c =
    let none : NoModify c.args.text.now =
    modify_no_clear c.args.text.now c.in_ok-reg.reg c.in_ok-reg.rest.now c.in_ok-reg.ensures c.in_ok-old.old c.in_ok-old.rest.now c.in_ok-old.ensures c.in_err-clear.ensures in
    search rules

pub returns-in_err-set : goal.returns-in_err-set
returns-in_err-set c =
    let none : NoModify c.args.text.now =
    modify_no_set c.args.text.now c.in_ok-reg.reg c.in_ok-reg.rest.now c.in_ok-reg.ensures c.in_ok-old.old c.in_ok-old.rest.now c.in_ok-old.ensures
    c.in_ok-clear.clear c.in_ok-clear.rest.now c.in_ok-clear.ensures c.in_err-set.ensures in
    search rules

pub returns-in_err-rest : goal.returns-in_err-rest
returns-in_err-rest c =
    let none : NoModify c.args.text.now =
    modify_no_end c.args.text.now c.in_ok-reg.reg c.in_ok-reg.rest.now c.in_ok-reg.ensures c.in_ok-old.old c.in_ok-old.rest.now c.in_ok-old.ensures
    c.in_ok-clear.clear c.in_ok-clear.rest.now c.in_ok-clear.ensures c.in_ok-set.set c.in_ok-set.rest.now c.in_ok-set.ensures c.in_err-rest.ensures in
    search rules

pub returns-else-addr : goal.returns-else-addr
returns-else-addr c =
    modify_two c.args.text.now c.in_ok-reg.reg c.in_ok-reg.rest.now c.in_ok-reg.ensures c.in_ok-old.old c.in_ok-old.rest.now c.in_ok-old.ensures (λ e. c.if-addr.false (c.addr.ensures ∙ e ∙ sym c.addr-2.ensures))
