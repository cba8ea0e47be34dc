use Rattle.std.proofs.Common.{Err, ◌≡◌, ◌++◌, ◌≤◌, ℕ, length, subst, arith}
use Rattle.std.specs.Prelude.{codes, decimal, map}
use Rattle.std.proofs.lemmas.Result.{IfOk-weaker}
use Rattle.std.proofs.lemmas.List.{length-map}
use Rattle.refusal.proofs.RefusalLemmas.{refuses_with}
use Rattle.refutation.specs.declared.node.ProofFault.TheVariants as fault
use Rattle.refutation.specs.Forms.{form_of}
use Rattle.refutation.specs.Reading.{proof_of}
use Rattle.solver.specs.Owed.{nodes, unread}
use Rattle.answers.specs.Said.{Says}
use Rattle.answers.specs.declared.answer.Status.TheVariants.{ProofRefused}
use Rattle.refutation.proofs.FewLemmas.{few_nodes}
use Rattle.solver.proofs.checked.checked.Goals as goal

pub judged-requires-clause-few : goal.judged-requires-clause-few
judged-requires-clause-few c =
    let read = c.in-Ok.proof.nodes in
    let few : length (map form_of read) ≤ length c.args.text.now = few_nodes c.args.text.now c.in-Ok.proof.bound (map form_of read) c.in-Ok.ensures in
    omega (arith, few, length-map read form_of, c.requires.few)

pub returns-in-Ok : goal.returns-in-Ok
returns-in-Ok c = IfOk-weaker c.judged.result _ _ (λ a due. nodes c.in-Ok.proof.bound c.in-Ok.proof.nodes c.in-Ok.ensures due) c.judged.ensures

pub returns-in-Err-Fault : goal.returns-in-Err-Fault
returns-in-Err-Fault c =
    let fault : proof_of c.args.text.now ≡ Err (fault.Line c.line_of.result) = refuses_with (proof_of c.args.text.now) c.in-Err-Fault.field-0 c.in-Err-Fault.fault _ c.in-Err-Fault.field-0-is c.line_of.ensures c.in-Err-Fault.ensures in
    IfOk-weaker c.counts.result _ _ (λ a says. unread c.line_of.result fault (subst (λ (n : ℕ). Says a ProofRefused (codes "proof: line " ++ decimal n)) c.from.ensures says)) c.counts.ensures
