use Rattle.std.proofs.lemmas.Result.{IfOk-weaker}
use Rattle.ioc_answer.specs.Owed.{OfIoc}
use Rattle.problem.specs.Problem.{problem_of}
use Rattle.problem.specs.declared.parts.Part.TheVariants.{Whole}
use Rattle.resolver.proofs.StatusLemmas.{of_ioc, of_problem}
use Rattle.resolver.proofs.threads.written_back.Goals as goal

pub returns-clause-status : goal.returns-clause-status
returns-clause-status g c =
    let p = problem_of c.args.tables c.args.project c.args.opts.now Whole in
    let text = c.args.text.now in
    IfOk-weaker c.write_least.result _ _ (λ a due. of_problem p (OfIoc text p) a (of_ioc text p a) due) c.write_least.ensures
