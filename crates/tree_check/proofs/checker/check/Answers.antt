use Rattle.std.proofs.Common.{◌≡◌, Some, None, sym, ap, ◌∙◌}
use Rattle.refutation.specs.Trees.{IsAccepted}
use Rattle.tree_check.specs.Faults.{fault_at}
use Rattle.tree_check.proofs.AnswerLemmas.{answer}
use Rattle.tree_check.proofs.FaultLemmas.{accepted, rejected}
use Rattle.tree_check.proofs.checker.check.Given.{Over}
use Rattle.tree_check.proofs.checker.check.Goals as goal
use Rattle.tree_check.proofs.checker.check.Goals.{In-Ok-None}

is_accepted : (g : Over) (c : In-Ok-None g) → IsAccepted (g.R.Refuter.meaning c.args.r.now) c.args.proof.now.bound c.args.proof.now.nodes
is_accepted g c =
    let m = g.R.Refuter.meaning c.args.r.now in
    let bound = c.args.proof.now.bound in
    let none : fault_at m bound c.args.proof.now.nodes ≡ None =
    ap (fault_at m bound) (sym c.as_slice-nodes.ensures) ∙ sym c.in-Ok-None.ensures ∙ c.in-Ok-None.field-0-is in
    accepted m bound c.args.proof.now.nodes none

pub returns-in-Ok-None-clause-accepted : goal.returns-in-Ok-None-clause-accepted
returns-in-Ok-None-clause-accepted g c = is_accepted g (goal.at.returns-in-Ok-None-clause-accepted g c).In-Ok-None

pub returns-in-Ok-None-clause-answer : goal.returns-in-Ok-None-clause-answer
returns-in-Ok-None-clause-answer g c =
    answer (g.R.Refuter.meaning c.args.r.now) (g.met.R.Refuter.sound c.args.r.now c.requires.serves) c.args.proof.now.bound c.args.proof.now.nodes (is_accepted g (goal.at.returns-in-Ok-None-clause-answer g c).In-Ok-None)

pub returns-in-Ok-Some-clause-rejected : goal.returns-in-Ok-Some-clause-rejected
returns-in-Ok-Some-clause-rejected g c =
    let m = g.R.Refuter.meaning c.args.r.now in
    let bound = c.args.proof.now.bound in
    let some : fault_at m bound c.args.proof.now.nodes ≡ Some c.in-Ok-Some.node =
    ap (fault_at m bound) (sym c.as_slice-nodes.ensures) ∙ sym c.in-Ok-Some.ensures ∙ c.in-Ok-Some.field-0-is in
    (some, rejected m bound c.args.proof.now.nodes c.in-Ok-Some.node some)
