use Rattle.std.proofs.Common.{◌≡◌, ◌*◌, ◌++◌, drop, map}
use Rattle.wish_search.proofs.hertz.multiples.Given as goal

abbrev pub invariant-loop-divider : goal.invariant-loop-divider
invariant-loop-divider l = l.hertz.items ++ map (λ d. l.wish * d) (drop l.divider-index l.dividers) ≡ map (λ d. l.wish * d) l.dividers
