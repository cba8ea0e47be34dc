use Rattle.std.proofs.Common.{length, ◌≡◌, ℕ, ◌<◌, true, Some}
use Rattle.pin_match.specs.Sets.{fits_in}
use Rattle.pin_match.specs.Pairs.{IsPaired, given_in}
use Rattle.pin_match.proofs.matching.keep.Given as goal

abbrev pub invariant-loop-variable : goal.invariant-loop-variable
invariant-loop-variable l = IsPaired (length l.sets) l.resources l.matching × ((v r : ℕ) → v < l.variable → v < (length l.sets) → given_in l.matching v ≡ Some r → fits_in l.sets v r ≡ true)
