use Rattle.std.proofs.Common.{length, ◌-◌}
use Rattle.pin_match.specs.Sets.{fits_in}
use Rattle.pin_match.specs.Walks.{Searched}
use Rattle.pin_match.specs.Pairs.{given_in}
use Rattle.pin_match.proofs.search.search.Given as goal

abbrev pub invariant-loop-head : goal.invariant-loop-head
invariant-loop-head l = Searched (length l.sets) l.resources (fits_in l.sets) (given_in l.matching) l.walk l.head

abbrev pub decreases-loop-head : goal.decreases-loop-head
decreases-loop-head l = (length l.sets) - l.head
