use Rattle.std.proofs.Common.{rules, true, false}
use Rattle.c_print.proofs.FrameLemmas.{NoFrameLine, goes_on_before, no_answers}
use Rattle.c_print.proofs.prefix.answers_at.Goals as goal

pub returns-in-Some : goal.returns-in-Some
returns-in-Some c = (goes_on_before c.args.over false, c.in-Some.ensures)

pub returns-in_err-rest : goal.returns-in_err-rest
returns-in_err-rest c = let none : NoFrameLine 2 c.args.over c.args.text.now = no_answers c.args.over c.args.text.now c.in_default.ensures c.in_err-rest.ensures in search rules

pub returns : goal.returns
returns c = (goes_on_before c.args.over true, c.in_ok-rest.ensures)
