use Rattle.std.proofs.Common.{◌≡◌, take}
use Rattle.res_model.proofs.copy.copy_pins.Given as goal

abbrev pub invariant-loop-pin : goal.invariant-loop-pin
invariant-loop-pin l = l.found.items ≡ take l.pin-index l.pins
