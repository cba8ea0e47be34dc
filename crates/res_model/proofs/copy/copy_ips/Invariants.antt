use Rattle.std.proofs.Common.{◌≡◌, take}
use Rattle.res_model.proofs.copy.copy_ips.Given as goal

abbrev pub invariant-loop-ip : goal.invariant-loop-ip
invariant-loop-ip l = l.found.items ≡ take l.ip-index l.ips
