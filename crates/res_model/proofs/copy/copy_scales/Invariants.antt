use Rattle.std.proofs.Common.{◌≡◌, take}
use Rattle.res_model.proofs.copy.copy_scales.Given as goal

abbrev pub invariant-loop-scale : goal.invariant-loop-scale
invariant-loop-scale l = l.found.items ≡ take l.scale-index l.scales
