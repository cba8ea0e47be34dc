use Rattle.std.proofs.Common.{◌≡◌, ◌++◌, drop}
use Rattle.res_model.specs.Values.{pin_variables}
use Rattle.problem.proofs.pins.push_pin_variables.Given as goal

abbrev pub invariant-loop-k : goal.invariant-loop-k
invariant-loop-k l = l.vars.items ++ pin_variables l.t (drop l.k l.signals) ≡ l.initial.vars.items ++ pin_variables l.t l.signals
