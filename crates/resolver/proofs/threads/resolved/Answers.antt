use Rattle.std.proofs.lemmas.Result.{IfOk-weaker}
use Rattle.problem.specs.Problem.{problem_of}
use Rattle.problem.specs.declared.parts.Part.TheVariants.{Whole}
use Rattle.solver.specs.Owed.{OfWhole}
use Rattle.resolver.proofs.StatusLemmas.{of_problem, of_whole}
use Rattle.resolver.proofs.threads.resolved.Goals as goal

pub returns-clause-status : goal.returns-clause-status
returns-clause-status g c =
    let p = problem_of c.args.tables c.args.project c.args.opts.now Whole in
    IfOk-weaker c.resolve.result _ _ (λ a due. of_problem p (OfWhole c.args.proof p) a (of_whole c.args.proof p a) due) c.resolve.ensures
