use Rattle.std.proofs.lemmas.Result.{IfOk-weaker}
use Rattle.problem.specs.Problem.{problem_of}
use Rattle.problem.specs.declared.parts.Part.TheVariants.{PinsOnly}
use Rattle.solver.specs.Owed.{OfPins}
use Rattle.resolver.proofs.StatusLemmas.{of_problem, of_pins}
use Rattle.resolver.proofs.commands.placed.Goals as goal

pub returns-clause-status : goal.returns-clause-status
returns-clause-status c =
    let p = problem_of c.args.tables c.args.project c.args.opts.now PinsOnly in
    IfOk-weaker c.place.result _ _ (λ a due. of_problem p (OfPins p) a (of_pins p a) due) c.place.ensures
