use Rattle.pin_match.specs.Walks.{Started}
use Rattle.pin_match.specs.Pairs.{given_in}
use Rattle.pin_match.proofs.search.start.Given as goal

abbrev pub invariant-loop-variable : goal.invariant-loop-variable
invariant-loop-variable l = Started l.variables (given_in l.matching) l.walk l.variable
