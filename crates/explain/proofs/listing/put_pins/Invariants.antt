use Rattle.std.proofs.Common.{◌≡◌, ◌++◌, map}
use Rattle.explain.specs.Things.{pin_thing, things_below}
use Rattle.explain.proofs.listing.put_pins.Given as goal

abbrev pub invariant-loop-i : goal.invariant-loop-i
invariant-loop-i l = l.out.items ≡ l.initial.out.items ++ things_below l.i (pin_thing l.t (map (λ line. line.now) l.lines) l.signals)
