use Rattle.std.proofs.Common.{◌≡◌, take}
use Rattle.std.specs.Prelude.{map}
use Rattle.proof_shift.specs.Raised.{raised_node}
use Rattle.proof_shift.proofs.raise.raised_nodes.Given as goal

abbrev pub invariant-loop-k : goal.invariant-loop-k
invariant-loop-k l = l.found.items ≡ map raised_node (take l.k l.nodes)
