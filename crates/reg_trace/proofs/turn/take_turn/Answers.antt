use Rattle.std.proofs.Common.{Bool, sym, subst}
use Rattle.reg_trace.specs.Turn.{IsTurn}
use Rattle.reg_trace.proofs.TurnLemmas.{turn_is}
use Rattle.reg_trace.proofs.turn.take_turn.Goals as goal

pub returns : goal.returns
returns c =
    let later = c.is_legal_after-after.result in
    subst (λ (b : Bool). IsTurn c.args.m.now c.args.op.now c.args.a c.args.fine c.step-stepped.new.self (record { stepped = c.step-stepped.result; fine = b; legal = later })) (sym c.all_hold.ensures) (
    turn_is c.args.m.now c.come.new.self c.step-stepped.new.self c.args.op.now c.args.a c.effect_of-before.result c.args.fine c.args.legal c.is_legal_now-flagged.result later c.step-stepped.result
    c.come.ensures.state c.come.ensures.table c.come.ensures.want
    c.step-stepped.ensures.step (c.flags_come_once.ensures.step c.args.m.now.state c.args.op.now c.args.a) c.step-stepped.ensures.table c.step-stepped.ensures.want
    c.effect_of-before.ensures c.requires.legal c.is_legal_now-flagged.ensures c.is_legal_after-after.ensures)
