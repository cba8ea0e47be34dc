use Rattle.std.proofs.Common.{rules}
use Rattle.c_print.proofs.FormLemmas.{NoAwait, await_no_mask, await_no_want, await_no_limit, await_no_count, await_no_name}
use Rattle.c_print.proofs.prefix.await_at.Goals as goal

pub returns-in_err-mask : goal.returns-in_err-mask
returns-in_err-mask c = let none : NoAwait c.args.text.now = await_no_mask c.args.text.now c.in_ok-reg.reg c.in_ok-reg.rest.now c.in_ok-reg.ensures c.in_err-mask.ensures in search rules

pub returns-in_err-want : goal.returns-in_err-want
returns-in_err-want c =
    let none : NoAwait c.args.text.now =
    await_no_want c.args.text.now c.in_ok-reg.reg c.in_ok-reg.rest.now c.in_ok-reg.ensures c.in_ok-mask.mask c.in_ok-mask.rest.now c.in_ok-mask.ensures c.in_err-want.ensures in
    search rules

pub returns-in_err-rest : goal.returns-in_err-rest
returns-in_err-rest c =
    let none : NoAwait c.args.text.now =
    await_no_limit c.args.text.now c.in_ok-reg.reg c.in_ok-reg.rest.now c.in_ok-reg.ensures c.in_ok-mask.mask c.in_ok-mask.rest.now c.in_ok-mask.ensures
    c.in_ok-want.want c.in_ok-want.rest.now c.in_ok-want.ensures c.in_err-rest.ensures in
    search rules

pub returns-in_err-polls : goal.returns-in_err-polls
returns-in_err-polls c =
    let none : NoAwait c.args.text.now =
    await_no_count c.args.text.now c.in_ok-reg.reg c.in_ok-reg.rest.now c.in_ok-reg.ensures c.in_ok-mask.mask c.in_ok-mask.rest.now c.in_ok-mask.ensures
    c.in_ok-want.want c.in_ok-want.rest.now c.in_ok-want.ensures c.in_ok-rest.rest.now c.in_ok-rest.ensures c.in_err-polls.ensures in
    search rules

pub returns-in_err-name : goal.returns-in_err-name
returns-in_err-name c =
    let none : NoAwait c.args.text.now =
    await_no_name c.args.text.now c.in_ok-reg.reg c.in_ok-reg.rest.now c.in_ok-reg.ensures c.in_ok-mask.mask c.in_ok-mask.rest.now c.in_ok-mask.ensures
    c.in_ok-want.want c.in_ok-want.rest.now c.in_ok-want.ensures c.in_ok-rest.rest.now c.in_ok-rest.ensures
    c.in_ok-polls.polls c.in_ok-polls.rest.now c.in_ok-polls.ensures c.in_err-name.ensures in
    search rules
