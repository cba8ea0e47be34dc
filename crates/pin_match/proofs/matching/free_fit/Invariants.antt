use Rattle.std.proofs.Common.{◌-◌, ◌≤◌}
use Rattle.pin_match.proofs.matching.free_fit.Given as goal

abbrev pub invariant-loop-resource : goal.invariant-loop-resource
invariant-loop-resource l = l.at ≤ 192

abbrev pub decreases-loop-resource : goal.decreases-loop-resource
decreases-loop-resource l = 192 - l.at
