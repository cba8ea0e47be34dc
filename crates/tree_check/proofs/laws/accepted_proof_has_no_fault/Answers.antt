use Rattle.tree_check.proofs.FaultLemmas.{accepted, faultless}
use Rattle.tree_check.proofs.laws.accepted_proof_has_no_fault.Goals as goal

pub returns : goal.returns
returns c = λ m bound nodes. (accepted m bound nodes, faultless m bound nodes)
