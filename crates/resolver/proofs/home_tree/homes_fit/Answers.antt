use Rattle.std.proofs.Common.{arith}
use Rattle.resolver.proofs.HomeLemmas.{fit}
use Rattle.resolver.proofs.home_tree.homes_fit.Goals as goal

pub returns : goal.returns
returns c = fit c.args.t.now.version c.args.t.now.clock c.args.homes.now c.keeps_rules.ensures.clock (omega arith) c.requires
