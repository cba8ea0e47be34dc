use Rattle.home_target.proofs.HomeLemmas.{use_there}
use Rattle.home_target.proofs.homes.is_there.Goals as goal

pub returns : goal.returns
returns c = use_there c.args.t.now c.args.s.now c.args.found c.requires.placed c.requires.found
