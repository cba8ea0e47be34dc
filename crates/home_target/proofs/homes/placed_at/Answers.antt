use Rattle.std.proofs.Common.{◌+◌, drop}
use Rattle.home_target.proofs.HomeLemmas.{placed_there}
use Rattle.home_target.proofs.homes.placed_at.Goals as goal

pub returns : goal.returns
returns c s e = placed_there c.args.t.now c.args.signals.now c.args.k s (drop (c.args.k + 1) c.args.signals.now) c.requires.placed e
