use Rattle.std.proofs.Common.{◌∙◌, List, refl}
use Rattle.refusal.proofs.RefusalLemmas.{fault_is}
use Rattle.choice_rank.specs.Choices.{IsNarrow}
use Rattle.choice_rank.specs.declared.shape.ShapeFault.{ShapeFault}
use Rattle.choice_rank.specs.declared.shape.ShapeFault.TheVariants.{TooWide}
use Rattle.choice_rank.specs.declared.variable.VarShape.{VarShape}
use Rattle.problem.specs.Problem.{IsRefused, shape_of}
use Rattle.problem.specs.declared.parts.Part.TheVariants.{Whole}
use Rattle.board_fit.proofs.BesideLemmas as beside
use Rattle.board_fit.proofs.boards.clocks_beside.Goals as goal

pub fixed-requires-clause-signals : goal.fixed-requires-clause-signals
fixed-requires-clause-signals c = beside.signals_are c.args.t c.args.p c.args.opts.now c.args.q.now c.requires.pins

pub build-requires-clause-few : goal.build-requires-clause-few
build-requires-clause-few c = (beside.board_is c.args.t c.args.p c.args.opts.now c.args.q.now c.args.at.now c.fixed.result c.requires.board c.requires.pins c.requires.placement c.fixed.ensures).few

pub build-requires-clause-placed : goal.build-requires-clause-placed
build-requires-clause-placed c = (beside.board_is c.args.t c.args.p c.args.opts.now c.args.q.now c.args.at.now c.fixed.result c.requires.board c.requires.pins c.requires.placement c.fixed.ensures).placed

pub build-requires-clause-hertz : goal.build-requires-clause-hertz
build-requires-clause-hertz c = (beside.board_is c.args.t c.args.p c.args.opts.now c.args.q.now c.args.at.now c.fixed.result c.requires.board c.requires.pins c.requires.placement c.fixed.ensures).hertz

pub build-requires-clause-homes : goal.build-requires-clause-homes
build-requires-clause-homes c = (beside.board_is c.args.t c.args.p c.args.opts.now c.args.q.now c.args.at.now c.fixed.result c.requires.board c.requires.pins c.requires.placement c.fixed.ensures).homes

pub returns-in-Ok : goal.returns-in-Ok
returns-in-Ok c = c.in-Ok.ensures.problem ∙ beside.problem_is c.args.t c.args.p c.args.opts.now c.args.q.now c.args.at.now c.fixed.result c.requires.pins c.fixed.ensures

never_wide : (vs : List VarShape) (fault : ShapeFault) → IsRefused vs fault → IsNarrow vs → ⊥
never_wide vs (TooWide variable) refused narrow = refused.0 narrow

pub unreachable-requires : goal.unreachable-requires
unreachable-requires c =
    let vs = shape_of c.args.t c.fixed.result c.args.opts.now Whole in
    never_wide vs c.in-Err-Fault.field-0-0
    (fault_is (IsRefused vs) c.in-Err-Fault.field-0 c.in-Err-Fault.field-0-0 _ c.in-Err-Fault.field-0-is refl c.in-Err-Fault.ensures.refused)
    (beside.narrow_is c.args.t c.args.p c.args.opts.now c.args.q.now c.args.at.now c.fixed.result c.requires.board c.requires.pins c.requires.placement c.fixed.ensures)
