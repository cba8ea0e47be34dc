use Rattle.std.proofs.Common.{◌∙◌, sym, subst}
use Rattle.choice_rank.specs.Choices.{IsNarrow}
use Rattle.problem.specs.Problem.{IsProblem, shape_of}
use Rattle.problem.proofs.AgreeLemmas.{parts_are}
use Rattle.problem.proofs.assembly.build.Goals as goal

pub of-requires-3 : goal.of-requires-3
of-requires-3 c =
    let same = parts_are c.args.t c.args.p c.args.opts.now c.args.part c.in_ok-shape.shape c.first_of.result c.of.result c.of-2.result c.facts-facts.result
    (c.in_ok-shape.ensures.vars ∙ c.in-Ok.ensures.shape) c.first_of.ensures (c.of.ensures ∙ c.in-Ok.ensures.clock) (c.of-2.ensures ∙ c.in-Ok.ensures.uses) c.facts-facts.ensures.facts in
    let narrow : IsNarrow (shape_of c.args.t c.args.p c.args.opts.now c.args.part) = subst IsNarrow c.in-Ok.ensures.shape c.in_ok-shape.ensures.narrow in
    subst IsProblem (sym same) (c.are_sized.ensures.agree narrow c.requires.hertz)

pub returns-clause-problem : goal.returns-clause-problem
returns-clause-problem c =
    let same = parts_are c.args.t c.args.p c.args.opts.now c.args.part c.in_ok-shape.shape c.first_of.result c.of.result c.of-2.result c.facts-facts.result
    (c.in_ok-shape.ensures.vars ∙ c.in-Ok.ensures.shape) c.first_of.ensures (c.of.ensures ∙ c.in-Ok.ensures.clock) (c.of-2.ensures ∙ c.in-Ok.ensures.uses) c.facts-facts.ensures.facts in
    c.of-3.ensures ∙ same
