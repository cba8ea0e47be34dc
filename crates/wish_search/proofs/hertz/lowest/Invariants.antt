use Rattle.std.proofs.Common.{◌≡◌}
use Rattle.wish_search.specs.Lowest.{IsLowestOf}
use Rattle.wish_search.proofs.hertz.lowest.Given as goal

abbrev pub invariant-loop-k : goal.invariant-loop-k
invariant-loop-k l = (l.tried.problem ≡ l.initial.tried.problem) × IsLowestOf l.initial.tried.problem l.k l.hertz l.tried.best
