use Rattle.std.proofs.Common.{length}
use Rattle.pin_match.specs.Sets.{fits_in}
use Rattle.pin_match.specs.Pairs.{IsMatch}
use Rattle.pin_match.proofs.matching.take_free.Given as goal

abbrev pub invariant-loop-variable : goal.invariant-loop-variable
invariant-loop-variable l = IsMatch (length l.sets) l.resources (fits_in l.sets) l.matching
