use Rattle.std.proofs.Common.{refl, subst, true}
use Rattle.std.proofs.lemmas.Result.{IfOk-weaker}
use Rattle.refusal.proofs.RefusalLemmas.{refuses_with}
use Rattle.ioc_project.specs.Project.{project_of}
use Rattle.problem.specs.Problem.{problem_of}
use Rattle.problem.specs.declared.parts.Part.TheVariants.{Whole}
use Rattle.res_model.specs.declared.table.TableParts.{TableParts}
use Rattle.explain.specs.Left.{HasCost, read, refused}
use Rattle.explain.proofs.costs.cost_left.Goals as goal

pub returns-in_ok-tables-in-Ok : goal.returns-in_ok-tables-in-Ok
returns-in_ok-tables-in-Ok c =
    IfOk-weaker c.project_cost.result _ _
    (λ cost due. read c.in-Ok.project c.in-Ok.ensures.project (subst (λ (t : TableParts). HasCost (problem_of t c.in-Ok.project c.args.opts.now Whole) cost) c.in_ok-tables-in-Ok.ensures due))
    c.project_cost.ensures

pub returns-in-Err-Fault : goal.returns-in-Err-Fault
returns-in-Err-Fault c =
    refused c.in-Err-Fault.field-0-0 (refuses_with (project_of c.args.t.now c.args.ioc.now c.args.opts.now true) c.in-Err-Fault.field-0 c.in-Err-Fault.field-0-0 _ c.in-Err-Fault.field-0-is refl c.in-Err-Fault.ensures.project) refl
