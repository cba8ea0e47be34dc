use Rattle.std.proofs.Common.{sym, append-nil, arith}
use Rattle.explain.specs.Things.{need_thing, things_below}
use Rattle.explain.proofs.ThingLemmas.{one_more, all}
use Rattle.explain.proofs.listing.put_needs.Goals as goal

pub loop-k-init : goal.loop-k-init
unfolding things_below
loop-k-init c = sym (append-nil c.args.out.now.items)

pub loop-k-preserved : goal.loop-k-preserved
loop-k-preserved c = one_more (need_thing) c.args.out.now.items c.loop-k.out.items c.push.new.self.items c.loop-k.k c.loop-k.invariant c.in_ok-push.ensures.items

pub returns : goal.returns
returns c = all (need_thing) c.args.out.now.items c.loop-k.out.items c.loop-k.k (c.args.count) (omega arith) c.loop-k.invariant
