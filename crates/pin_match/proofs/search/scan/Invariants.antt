use Rattle.std.proofs.Common.{length, ◌-◌, ◌≤◌}
use Rattle.pin_match.specs.Sets.{fits_in}
use Rattle.pin_match.specs.Walks.{Scanned}
use Rattle.pin_match.specs.Pairs.{given_in}
use Rattle.pin_match.proofs.search.scan.Given as goal

abbrev pub invariant-loop-resource : goal.invariant-loop-resource
invariant-loop-resource l = Scanned (length l.sets) (fits_in l.sets) (given_in l.matching) l.initial.walk l.walk l.variable l.at × (l.at ≤ 192)

abbrev pub decreases-loop-resource : goal.decreases-loop-resource
decreases-loop-resource l = 192 - l.at
