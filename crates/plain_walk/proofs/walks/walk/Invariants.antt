use Rattle.std.proofs.Common.{◌≡◌, length, vec_len}
use Rattle.plain_walk.specs.SoFar.{IsLowestBelow}
use Rattle.plain_walk.proofs.walks.walk.Given as goal

abbrev pub invariant-loop-index : goal.invariant-loop-index
invariant-loop-index g l = record {
  places : vec_len l.at ≡ length l.shape;
  best : IsLowestBelow l.shape (g.L.Legality.legal l.limits) l.index l.best;
}
