use Rattle.std.proofs.Common.{◌≡◌, take}
use Rattle.res_model.proofs.copy.copy_flash.Given as goal

abbrev pub invariant-loop-range : goal.invariant-loop-range
invariant-loop-range l = l.found.items ≡ take l.range-index l.ranges
