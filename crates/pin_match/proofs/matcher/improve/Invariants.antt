use Rattle.std.proofs.Common.{length}
use Rattle.pin_match.specs.Sets.{fits_in}
use Rattle.pin_match.specs.Walks.{IsWalk, place_in}
use Rattle.pin_match.specs.Pairs.{Carried, given_in}
use Rattle.pin_match.proofs.matcher.improve.Given as goal

abbrev pub invariant-loop-let_go : goal.invariant-loop-let_go
invariant-loop-let_go l = Carried (length l.sets) l.resources (fits_in l.sets) (given_in l.fn.matching) l.walk l.matching l.variable l.resource × IsWalk (length l.sets) (fits_in l.sets) (given_in l.fn.matching) l.walk

abbrev pub decreases-loop-let_go : goal.decreases-loop-let_go
decreases-loop-let_go l = place_in l.walk l.variable
