use Rattle.choice_setup.proofs.PinLemmas.{uses_from}
use Rattle.board_fit.proofs.fixing.first_use.Goals as goal

pub returns : goal.returns
returns c = uses_from c.args.q.now c.args.at.now c.args.signal c.use_of.result c.parts_agree.ensures c.requires.choice c.requires.signal c.use_of.ensures
