use Rattle.std.proofs.Common.{◌≡◌, ◌-◌, length}
use Rattle.pin_match.specs.Assignments.{size_of}
use Rattle.pin_match.specs.Sets.{fits_in}
use Rattle.pin_match.specs.Pairs.{IsMatch, given_in}
use Rattle.pin_match.proofs.matcher.Matcher.hall.Given as goal

abbrev pub invariant-grow : goal.invariant-grow
invariant-grow l = record {
  variables : l.self-inside.variables ≡ length l.sets;
  resources : l.self-inside.resources ≡ l.resources;
  matched : IsMatch (length l.sets) l.resources (fits_in l.sets) l.self-inside.matching;
}

abbrev pub decreases-grow : goal.decreases-grow
decreases-grow l = length l.sets - size_of (length l.sets) (given_in l.self-inside.matching)
