use Rattle.std.proofs.Common.{◌≡◌, suc, ◌-◌, ◌<◌, List, ◌++◌, length, drop, true, false, sym, subst, ◌∙◌, refl, arith, rules}
use Rattle.res_base.specs.Lists.{Each}
use Rattle.reg_machine.specs.Legal.{is_legal}
use Rattle.reg_machine.specs.Words.{IsOp}
use Rattle.reg_machine.specs.declared.op.Op.{Op}
use Rattle.reg_trace.specs.Lines.{text_of}
use Rattle.reg_trace.specs.Trace.{goes_on}
use Rattle.reg_trace.specs.Turn.{run_lines, run_over}
use Rattle.reg_trace.proofs.RunLemmas.{begins, done, ends_by, goes_by, long, moved, ops_after, turned}
use Rattle.reg_trace.proofs.run.put_run.Goals as goal

pub steps-init : goal.steps-init
steps-init c = record {
  table = refl;
  want = refl;
  there = c.requires;
  known = c.legal-fine.ensures.test;
  stands = begins c.args.m.now c.args.ops.now c.args.answers.now c.most-left.result c.legal-fine.result c.args.out.now.items c.legal-fine.ensures.test c.most-left.ensures.is c.most-left.ensures.value;
}

pub steps-preserved : goal.steps-preserved
steps-preserved c =
    let v = c.args.m.now in
    let l = c.steps in
    let i = c.steps.invariant in
    let op = c.next_op-op.result in
    let turn = c.in_ok-turn.turn in
    let after = c.shown_turn.new.m in
    let shown = c.in_ok-turn.ensures in
    let facts = turned v.table v.want l.m after op c.next_answer.result _ l.fine turn shown.turn_is c.next_answer.ensures i.table i.want in
    let on : goes_on turn.stepped ≡ true = search rules in
    let left : l.left ≡ suc (l.left - 1) = omega arith in
    let went = goes_by (is_legal v.table v.want) (run_over v c.args.ops.now c.args.answers.now) (c.args.out.now.items ++ text_of (run_lines v c.args.ops.now c.args.answers.now)) l.out.items l.number l.fine op (drop 1 l.todo.now) l.coming.now l.m.state (l.left - 1)
    l.left l.todo.now turn.stepped turn.fine after.state c.shown_turn.new.out.items left c.next_op-op.ensures.is facts.stepped facts.state facts.fine_is shown.text on i.stands in
    record {
      table = shown.turn_is.table ∙ i.table;
      want = shown.turn_is.want ∙ i.want;
      known = shown.turn_is.legal_is;
      there = subst (λ (os : List Op). Each IsOp os) (sym c.todo_after-todo.ensures) (ops_after turn.stepped l.todo.now i.there c.next_op-op.ensures.others);
      stands = moved _ _ _ _ _ _ _ _ _ _ c.number_after-number.result c.fine_after-fine.result c.todo_after-todo.result.now c.later_answers-coming.result.now went c.number_after-number.ensures c.fine_after-fine.ensures c.todo_after-todo.ensures c.later_answers-coming.ensures;
    }

pub number_after-number-requires : goal.number_after-number-requires
number_after-number-requires c = omega (arith, c.steps.invariant.stands.small)

pub returns-then-left-eq0 : goal.returns-then-left-eq0
returns-then-left-eq0 c =
    let l = c.steps in
    let none : l.left ≡ 0 = omega arith in
    let some : 0 < length l.todo.now = search rules in
    long _ _ _ _ _ _ l.left l.todo.now l.coming.now l.m.state l.invariant.stands none some

pub returns-then-not-goes_on : goal.returns-then-not-goes_on
returns-then-not-goes_on c =
    let v = c.args.m.now in
    let l = c.steps in
    let i = c.steps.invariant in
    let op = c.next_op-op.result in
    let turn = c.in_ok-turn.turn in
    let after = c.shown_turn.new.m in
    let shown = c.in_ok-turn.ensures in
    let facts = turned v.table v.want l.m after op c.next_answer.result _ l.fine turn shown.turn_is c.next_answer.ensures i.table i.want in
    let off : goes_on turn.stepped ≡ false = search rules in
    let left : l.left ≡ suc (l.left - 1) = omega arith in
    let ended = ends_by (is_legal v.table v.want) (run_over v c.args.ops.now c.args.answers.now) (c.args.out.now.items ++ text_of (run_lines v c.args.ops.now c.args.answers.now)) l.out.items l.number l.fine op (drop 1 l.todo.now) l.coming.now l.m.state (l.left - 1)
    l.left l.todo.now turn.stepped turn.fine after.state c.shown_turn.new.out.items left c.next_op-op.ensures.is facts.stepped facts.state facts.fine_is shown.text off i.stands in
    (ended.over_is, sym ended.whole_is)

pub returns : goal.returns
returns c =
    let l = c.steps in
    let none : length l.todo.now ≡ 0 = search rules in
    let ended = done _ _ _ _ _ _ l.left l.todo.now l.coming.now l.m.state c.put_done.new.out.items l.invariant.stands none c.in_ok-put_done.ensures in
    (ended.over_is, sym ended.whole_is)
