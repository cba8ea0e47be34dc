use Rattle.std.proofs.Common.{◌++◌, ◌∙◌, ℕ, List, sym, ap}
use Rattle.reg_trace.proofs.RunLemmas.{seen_is}
use Rattle.reg_trace.proofs.run.shown_turn.Goals as goal

pub returns : goal.returns
returns c =
    let turn = c.take_turn-turn.result in
    let after = c.take_turn-turn.new.m in
    record {
      turn_is = c.take_turn-turn.ensures;
      text = c.in_ok-put_step.ensures ∙ ap (λ (xs : List ℕ). c.args.out.now.items ++ xs) (sym (seen_is c.args.number turn.fine c.args.op.now after.state c.seen_of-seen.result turn.stepped c.seen_of-seen.ensures));
    }
