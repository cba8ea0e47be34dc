use Rattle.std.proofs.Common.{◌≡◌, ◌++◌}
use Rattle.explain.specs.Things.{need_thing, things_below}
use Rattle.explain.proofs.listing.put_needs.Given as goal

abbrev pub invariant-loop-k : goal.invariant-loop-k
invariant-loop-k l = l.out.items ≡ l.initial.out.items ++ things_below l.k (need_thing)
