use Rattle.std.proofs.Common.{◌≢◌, subst, sym, arith}
use Rattle.std.proofs.lemmas.Result.{IfOk-weaker}
use Rattle.refusal.proofs.RefusalLemmas.{fault_is}
use Rattle.choice_rank.specs.declared.shape.ShapeFault.TheVariants.{TooWide}
use Rattle.problem.specs.Problem.{IsRefused, problem_of}
use Rattle.problem.specs.declared.parts.Part.TheVariants.{Whole}
use Rattle.problem.specs.declared.parts.ProblemParts.{ProblemParts}
use Rattle.explain.specs.Left.{IsLeastCost, narrow, wide}
use Rattle.explain.proofs.costs.project_cost.Goals as goal

pub least_cost-requires : goal.least_cost-requires
unfolding problem_of
least_cost-requires c = subst (λ (q : ProblemParts). q.first ≢ 0) (sym c.in-Ok.ensures.problem) (λ e. omega (arith, e))

pub returns-in-Ok : goal.returns-in-Ok
unfolding problem_of
returns-in-Ok c =
    IfOk-weaker c.least_cost.result _ _ (λ cost due. narrow c.in-Ok.ensures.narrow (subst (λ (q : ProblemParts). IsLeastCost q cost) c.in-Ok.ensures.problem due)) c.least_cost.ensures

pub returns-in-Err-Fault : goal.returns-in-Err-Fault
unfolding problem_of
returns-in-Err-Fault c =
    let q = problem_of c.args.t c.args.p c.args.opts.now Whole in
    let is = rw c.in-Err-Fault.field-0-is at c.wide_variable.ensures in
    let refused : IsRefused q.shape (TooWide c.wide_variable.result) = fault_is (IsRefused q.shape) c.in-Err-Fault.field-0 c.in-Err-Fault.fault _ c.in-Err-Fault.field-0-is is c.in-Err-Fault.ensures.refused in
    IfOk-weaker c.wide_cost.result _ _ (λ cost none. wide refused.0 none) c.wide_cost.ensures
