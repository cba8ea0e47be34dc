use Rattle.std.proofs.Common.{arith}
use Rattle.choice_rank.proofs.ChoiceLemmas.{choice_length, cost_more, cost_at_le, nothing}
use Rattle.choice_rank.proofs.places.cost_in.Goals as goal

pub bounds-at-i : goal.bounds-at-i
bounds-at-i c = omega (arith, choice_length c.args.vars.now c.args.at.now c.requires.choice)

pub loop-i-preserved : goal.loop-i-preserved
loop-i-preserved c =
    let len = choice_length c.args.vars.now c.args.at.now c.requires.choice in
    record {
      cost = omega (arith, cost_more c.args.vars.now c.args.at.now c.loop-i.i nothing c.loop-i-test.true (omega (arith, len)), c.cost-cost.ensures);
      most = omega (arith, cost_at_le, c.cost-cost.ensures);
    }
