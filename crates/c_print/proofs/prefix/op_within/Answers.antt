use Rattle.std.proofs.Common.{rules, sym, ◌∙◌}
use Rattle.c_print.specs.Text.{op_line}
use Rattle.c_print.specs.Prefixes.{BeginsNone, FitsFrame}
use Rattle.c_print.proofs.WithinLemmas.{none_within, not_within, any_within, op_within}
use Rattle.c_print.proofs.prefix.op_within.Goals as goal

pub returns-in_err-op : goal.returns-in_err-op
returns-in_err-op c = let none : BeginsNone op_line (FitsFrame c.args.over) c.args.text.now = none_within c.args.over c.args.text.now c.in_err-op.ensures in search rules

pub returns-then-over : goal.returns-then-over
returns-then-over c = any_within c.args.over c.args.text.now c.in_ok-op.op c.in_ok-op.rest.now c.if-over.true c.in_ok-op.ensures

pub returns-then-is_over_op : goal.returns-then-is_over_op
returns-then-is_over_op c = not_within c.args.over c.args.text.now c.in_ok-op.op c.in_ok-op.rest.now c.if-over.false (sym c.is_over_op.ensures ∙ c.if-is_over_op.true) c.in_ok-op.ensures

pub returns-else-is_over_op : goal.returns-else-is_over_op
returns-else-is_over_op c = op_within c.args.over c.args.text.now c.in_ok-op.op c.in_ok-op.rest.now (sym c.is_over_op.ensures ∙ c.if-is_over_op.false) c.in_ok-op.ensures
