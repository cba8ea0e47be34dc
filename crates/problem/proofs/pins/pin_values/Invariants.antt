use Rattle.std.proofs.Common.{◌≡◌, ◌++◌, drop}
use Rattle.res_model.specs.Values.{pin_values}
use Rattle.problem.proofs.pins.pin_values.Given as goal

abbrev pub invariant-loop-signal : goal.invariant-loop-signal
invariant-loop-signal l = l.found.items ++ pin_values l.t (drop l.signal-index l.signals) ≡ pin_values l.t l.signals
