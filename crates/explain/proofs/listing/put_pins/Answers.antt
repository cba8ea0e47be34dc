use Rattle.std.proofs.Common.{length, map, sym, append-nil, arith}
use Rattle.std.specs.Borrow.{Bor}
use Rattle.ioc_text.specs.declared.line.Line.{Line}
use Rattle.explain.specs.Things.{pin_thing, things_below}
use Rattle.explain.proofs.ThingLemmas.{one_more, all}
use Rattle.explain.proofs.listing.put_pins.Goals as goal

pub loop-i-init : goal.loop-i-init
unfolding things_below
loop-i-init c = sym (append-nil c.args.out.now.items)

pub loop-i-preserved : goal.loop-i-preserved
loop-i-preserved c = one_more (pin_thing c.args.t.now (map (λ (l : Bor Line). l.now) c.args.lines.now) c.args.signals.now) c.args.out.now.items c.loop-i.out.items c.put_pin.new.out.items c.loop-i.i c.loop-i.invariant c.in_ok-put_pin.ensures

pub returns : goal.returns
returns c = all (pin_thing c.args.t.now (map (λ (l : Bor Line). l.now) c.args.lines.now) c.args.signals.now) c.args.out.now.items c.loop-i.out.items c.loop-i.i (length c.args.signals.now) (omega arith) c.loop-i.invariant
