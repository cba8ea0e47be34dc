use Rattle.std.proofs.Common.{◌≢◌, subst, sym, arith}
use Rattle.std.proofs.lemmas.Result.{IfOk-weaker}
use Rattle.refusal.proofs.RefusalLemmas.{fault_is}
use Rattle.choice_rank.specs.declared.shape.ShapeFault.TheVariants.{TooWide}
use Rattle.problem.specs.Problem.{IsRefused, problem_of}
use Rattle.problem.specs.declared.parts.Part.TheVariants.{Whole}
use Rattle.problem.specs.declared.parts.ProblemParts.{ProblemParts}
use Rattle.res_base.specs.Lists.{Each}
use Rattle.res_model.specs.Placed.{IsPlaced}
use Rattle.solver.specs.Owed.{OfWhole, narrow, wide}
use Rattle.solver.proofs.whole.resolve.Goals as goal

pub answered-requires-clause-whole : goal.answered-requires-clause-whole
unfolding problem_of
answered-requires-clause-whole g c κs within = subst (λ (q : ProblemParts). q.first ≢ 0) (sym c.in-Ok.ensures.problem) (λ e. omega (arith, e))

pub answered-requires-clause-placed : goal.answered-requires-clause-placed
unfolding problem_of
answered-requires-clause-placed g c κs within = subst (λ (q : ProblemParts). Each (IsPlaced q.tables) q.signals) (sym c.in-Ok.ensures.problem) c.requires.placed

pub returns-in-Ok : goal.returns-in-Ok
unfolding problem_of
returns-in-Ok g c =
    IfOk-weaker c.answered.result _ _ (λ a due. narrow c.in-Ok.ensures.narrow (subst (λ (q : ProblemParts). OfWhole c.args.proof q a) c.in-Ok.ensures.problem due)) c.answered.ensures

pub returns-in-Err-Fault : goal.returns-in-Err-Fault
unfolding problem_of
returns-in-Err-Fault g c =
    let q = problem_of c.args.t c.args.p c.args.opts.now Whole in
    let refused : IsRefused q.shape (TooWide c.wide_variable.result) = fault_is (IsRefused q.shape) c.in-Err-Fault.field-0 c.in-Err-Fault.fault _ c.in-Err-Fault.field-0-is c.wide_variable.ensures c.in-Err-Fault.ensures.refused in
    IfOk-weaker c.too_wide.result _ _ (λ a says. wide c.wide_variable.result refused.0 refused.1 says) c.too_wide.ensures
