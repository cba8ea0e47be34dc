use Rattle.std.proofs.Common.{arith, length-set, ◌∙◌}
use Rattle.init_gen.proofs.WantLemmas.{wants_more, wants_all}
use Rattle.init_gen.proofs.wants.wanted_of.Goals as goal

pub loop-place-preserved : goal.loop-place-preserved
loop-place-preserved c = record {
  size = length-set c.loop-place.wants c.loop-place.place c.wanted.result ∙ c.loop-place.invariant.size;
  before = wants_more c.args.pins.now c.loop-place.wants c.loop-place.place c.wanted.result (omega arith) c.wanted.ensures c.loop-place.invariant.before;
}

pub returns : goal.returns
returns c = wants_all c.args.pins.now c.loop-place.wants 144 c.loop-place.invariant.size c.told-pins (λ k l. c.loop-place.invariant.before k (omega arith))
