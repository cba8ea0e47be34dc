use Rattle.std.proofs.Common.{length, sym, append-nil, arith}
use Rattle.explain.specs.Things.{lock_thing, things_below}
use Rattle.explain.proofs.ThingLemmas.{one_more, all}
use Rattle.explain.proofs.listing.put_locks.Goals as goal

pub loop-i-init : goal.loop-i-init
unfolding things_below
loop-i-init c = sym (append-nil c.args.out.now.items)

pub loop-i-preserved : goal.loop-i-preserved
loop-i-preserved c = one_more (lock_thing c.args.t.now c.args.ioc.now c.args.signals.now) c.args.out.now.items c.loop-i.out.items c.put_lock.new.out.items c.loop-i.i c.loop-i.invariant c.in_ok-put_lock.ensures

pub returns : goal.returns
returns c = all (lock_thing c.args.t.now c.args.ioc.now c.args.signals.now) c.args.out.now.items c.loop-i.out.items c.loop-i.i (length c.args.signals.now) (omega arith) c.loop-i.invariant
