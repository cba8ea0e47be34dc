use Rattle.choice_rank.proofs.WeightLemmas.{weight_next, weights_next}
use Rattle.choice_rank.proofs.shape.weigh.Goals as goal

pub loop-v-preserved : goal.loop-v-preserved
loop-v-preserved c =
    let next = weight_next c.args.vars.now c.loop-v.v-index c.from-weight.result c.loop-v.weight c.requires.positions c.loop-v-test.true c.from-weight.ensures c.loop-v.invariant.weight in
    record {
      weight = next;
      weights = weights_next c.args.vars.now c.loop-v.weights.items c.push.new.self.items c.loop-v.v-index _ c.loop-v-test.true next c.in_ok-push.ensures.items c.loop-v.invariant.weights;
    }
