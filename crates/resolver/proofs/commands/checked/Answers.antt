use Rattle.std.proofs.lemmas.Result.{IfOk-weaker}
use Rattle.problem.specs.Problem.{problem_of}
use Rattle.problem.specs.declared.parts.Part.TheVariants.{Whole}
use Rattle.solver.specs.Owed.{OfProof}
use Rattle.resolver.proofs.StatusLemmas.{of_problem, of_proof}
use Rattle.resolver.proofs.commands.checked.Goals as goal

pub returns-clause-status : goal.returns-clause-status
returns-clause-status c =
    let p = problem_of c.args.tables c.args.project c.args.opts.now Whole in
    IfOk-weaker c.check.result _ _ (λ a due. of_problem p (OfProof c.args.text.now p) a (of_proof c.args.text.now p a) due) c.check.ensures
