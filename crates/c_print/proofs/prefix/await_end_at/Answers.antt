use Rattle.std.proofs.Common.{rules, ◌≢◌, ℕ, List, ◌++◌}
use Rattle.reg_machine.specs.declared.op.Timeout.{Timeout}
use Rattle.c_print.specs.Text.{await_end}
use Rattle.c_print.proofs.FormLemmas.{no_name}
use Rattle.c_print.proofs.prefix.await_end_at.Goals as goal

pub returns-in_err-rest : goal.returns-in_err-rest
returns-in_err-rest c =
    let none : (name : Timeout) (rest : List ℕ) → c.args.text.now ≢ await_end name ++ rest =
    no_name c.args.text.now c.in_default.ensures c.in_default-after_await_end.ensures c.in_default-after_await_end-2.ensures c.in_default-after_await_end-3.ensures c.in_default-after_await_end-4.ensures c.in_err-rest.ensures in
    search rules
