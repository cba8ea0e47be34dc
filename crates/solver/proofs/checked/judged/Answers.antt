use Rattle.std.proofs.lemmas.Result.{IfOk-weaker}
use Rattle.refusal.proofs.RefusalLemmas.{fault_is}
use Rattle.box_rules.specs.Judged.{whole_meaning}
use Rattle.refutation.specs.declared.node.CheckFault.TheVariants.{Rejected}
use Rattle.refute_check.specs.Faults.{IsRejected}
use Rattle.solver.specs.Owed.{rejected}
use Rattle.solver.proofs.checked.judged.Goals as goal

pub returns-in-Err-Fault : goal.returns-in-Err-Fault
returns-in-Err-Fault c =
    let m = whole_meaning c.args.p.now in
    let fault : IsRejected m c.args.proof.now.bound c.args.proof.now.nodes (Rejected c.node_of.result) =
    fault_is (IsRejected m c.args.proof.now.bound c.args.proof.now.nodes) c.in-Err-Fault.field-0 c.in-Err-Fault.fault _ c.in-Err-Fault.field-0-is c.node_of.ensures c.in-Err-Fault.ensures.rejected in
    IfOk-weaker c.rejected.result _ _ (λ a says. rejected c.node_of.result fault.0 says) c.rejected.ensures
