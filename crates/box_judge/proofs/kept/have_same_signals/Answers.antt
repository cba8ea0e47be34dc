use Rattle.std.proofs.Common.{length, ap, ◌∙◌, arith}
use Rattle.box_judge.proofs.KeptLemmas.{same_signals}
use Rattle.box_judge.proofs.LimitLemmas.{ten}
use Rattle.problem.specs.declared.parts.ProblemParts.{ProblemParts}
use Rattle.box_judge.proofs.kept.have_same_signals.Goals as goal

pub are_same-requires-then-are_same-clause-ordered : goal.are_same-requires-then-are_same-clause-ordered
are_same-requires-then-are_same-clause-ordered c =
    omega (arith, ten c.args.p.now c.requires, ap length (c.vars-end.ensures.vars ∙ ap (λ (q : ProblemParts). q.shape) c.parts.ensures))

pub returns-then-are_same : goal.returns-then-are_same
returns-then-are_same c same =
    same_signals c.args.p.now c.requires c.args.a.now c.args.b.now (length c.vars-end.result.now) (ap length (c.vars-end.ensures.vars ∙ ap (λ (q : ProblemParts). q.shape) c.parts.ensures))
    c.are_same.ensures.long c.are_same-then-are_same.ensures.long c.are_same.ensures.as_long c.are_same-then-are_same.ensures.as_long
    (c.are_same.ensures.same c.if-are_same.true) (c.are_same-then-are_same.ensures.same same)
