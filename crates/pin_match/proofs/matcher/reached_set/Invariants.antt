use Rattle.pin_match.specs.Walks.{IsSetOf}
use Rattle.pin_match.proofs.matcher.reached_set.Given as goal

abbrev pub invariant-loop-variable : goal.invariant-loop-variable
invariant-loop-variable l = IsSetOf l.variable l.walk l.out
