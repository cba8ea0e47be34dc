use Rattle.std.proofs.Common.{◌≢◌, subst, sym, arith}
use Rattle.std.proofs.lemmas.Result.{IfOk-weaker}
use Rattle.refusal.proofs.RefusalLemmas.{fault_is}
use Rattle.choice_rank.specs.declared.shape.ShapeFault.TheVariants.{TooWide}
use Rattle.problem.specs.Problem.{IsRefused, problem_of}
use Rattle.problem.specs.declared.parts.Part.TheVariants.{Whole}
use Rattle.problem.specs.declared.parts.ProblemParts.{ProblemParts}
use Rattle.explain.specs.Due.{OfNarrow, narrow, wide}
use Rattle.explain.proofs.due.explain.Goals as goal

pub narrow-requires-clause-whole : goal.narrow-requires-clause-whole
unfolding problem_of
narrow-requires-clause-whole c = subst (λ (q : ProblemParts). q.first ≢ 0) (sym c.in-Ok.ensures.problem) (λ e. omega (arith, e))

pub returns-in-Ok : goal.returns-in-Ok
unfolding problem_of
returns-in-Ok c =
    IfOk-weaker c.narrow.result _ _ (λ a due. narrow c.in-Ok.ensures.narrow (subst (λ (q : ProblemParts). OfNarrow c.args.p.clock q c.args.text.now c.args.opts.now a) c.in-Ok.ensures.problem due)) c.narrow.ensures

pub returns-in-Err-Fault : goal.returns-in-Err-Fault
unfolding problem_of
returns-in-Err-Fault c =
    let q = problem_of c.args.t c.args.p c.args.opts.now Whole in
    let is = rw c.in-Err-Fault.field-0-is at c.wide_variable.ensures in
    let refused : IsRefused q.shape (TooWide c.wide_variable.result) = fault_is (IsRefused q.shape) c.in-Err-Fault.field-0 c.in-Err-Fault.fault _ c.in-Err-Fault.field-0-is is c.in-Err-Fault.ensures.refused in
    IfOk-weaker c.too_wide.result _ _ (λ a says. wide c.wide_variable.result refused.0 refused.1 says) c.too_wide.ensures
