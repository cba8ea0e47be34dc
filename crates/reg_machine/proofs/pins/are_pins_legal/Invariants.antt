use Rattle.std.proofs.Common.{◌≡◌}
use Rattle.reg_machine.specs.Pins.{are_legal_below}
use Rattle.reg_machine.proofs.pins.are_pins_legal.Given as goal

abbrev pub invariant-loop-place : goal.invariant-loop-place
invariant-loop-place l = l.legal ≡ are_legal_below l.place l.want.pins l.gpio
