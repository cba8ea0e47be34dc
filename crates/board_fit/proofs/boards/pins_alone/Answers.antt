use Rattle.std.proofs.Common.{IfErr, ap, subst}
use Rattle.std.proofs.lemmas.Result.{IfOk-weaker}
use Rattle.refusal.specs.Refusals.{IfFault}
use Rattle.problem.specs.Problem.{IsRefused, problem_of, shape_of}
use Rattle.problem.specs.declared.parts.Part.TheVariants.{PinsOnly}
use Rattle.problem.specs.declared.parts.ProblemParts.{ProblemParts}
use Rattle.res_model.specs.declared.project.Project.{Project}
use Rattle.res_model.specs.declared.table.TableParts.{TableParts}
use Rattle.board_fit.proofs.boards.pins_alone.Goals as goal

pub returns-clause-alone : goal.returns-clause-alone
unfolding problem_of
returns-clause-alone c = IfOk-weaker c.build.result _ _ (λ q e. ap (λ (x : ProblemParts). x.first) e) c.build.ensures.problem

pub returns-clause-refused : goal.returns-clause-refused
unfolding problem_of
returns-clause-refused c =
    subst (λ (x : Project). IfErr c.build.result (λ e. IfFault e (IsRefused (shape_of c.args.t.now x c.args.opts.now PinsOnly)))) c.in-Ok-copied.ensures
    (subst (λ (x : TableParts). IfErr c.build.result (λ e. IfFault e (IsRefused (shape_of x c.in-Ok-copied.project c.args.opts.now PinsOnly)))) c.in-Ok.ensures c.build.ensures.refused)
