use Rattle.choice_setup.proofs.PinLemmas.{pin_there, uses_from}
use Rattle.choice_setup.proofs.pins.first_use.Goals as goal

pub returns-clause-first : goal.returns-clause-first
returns-clause-first c = uses_from c.args.p.now c.args.at.now c.args.signal c.use_of.result c.parts_agree.ensures c.requires.choice c.requires.signal c.use_of.ensures

pub returns-clause-pin : goal.returns-clause-pin
returns-clause-pin c = pin_there c.args.p.now c.args.at.now c.args.signal c.use_of.result c.parts_agree.ensures c.use_of.ensures
