use Rattle.std.proofs.Common.{sym, ◌∙◌}
use Rattle.reg_machine.proofs.LegalLemmas.{below_none, below_more}
use Rattle.reg_machine.proofs.pins.are_pins_legal.Goals as goal

pub loop-place-init : goal.loop-place-init
loop-place-init c = sym (below_none c.args.want.now.pins c.args.gpio.now)

pub loop-place-preserved : goal.loop-place-preserved
loop-place-preserved c = c.both-legal.ensures ∙ below_more c.loop-place.place c.args.want.now.pins c.args.gpio.now c.is_place_legal-here.result c.loop-place.legal c.is_place_legal-here.ensures c.loop-place.invariant
