use Rattle.std.proofs.Common.{◌∙◌, ◌++◌, List, ap}
use Rattle.choice_rank.specs.declared.variable.VarShape.{VarShape}
use Rattle.res_model.specs.declared.project.Signal.{Signal}
use Rattle.res_model.specs.Values.{pin_variables}
use Rattle.problem.specs.Problem.{clock_shape, shape_of}
use Rattle.problem.proofs.assembly.variables.Goals as goal

pub returns-clause-shape : goal.returns-clause-shape
unfolding shape_of
returns-clause-shape c =
    let t = c.args.t.now in
    c.in_ok-push_pin_variables.ensures
    ∙ ap (λ (vs : List VarShape). vs ++ pin_variables t c.as_slice-signals.result.now) c.in_ok-vars.ensures.vars
    ∙ ap (λ (ss : List Signal). clock_shape t c.args.p.now c.args.opts.now c.args.part ++ pin_variables t ss) c.as_slice-signals.ensures
