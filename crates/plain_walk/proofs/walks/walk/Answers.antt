use Rattle.std.proofs.Common.{arith}
use Rattle.plain_walk.proofs.WalkLemmas.{answer}
use Rattle.plain_walk.proofs.walks.walk.Goals as goal

pub returns : goal.returns
returns g c = answer c.args.shape.now (g.L.Legality.legal c.args.limits.now) c.loop-index.index c.loop-index.best (omega arith) c.loop-index.invariant.best
