use Rattle.std.proofs.Common.{◌∙◌, ℕ, List, Some, ap, subst, sym}
use Rattle.choice_rank.specs.Least.{IsAnswer, IsLeast}
use Rattle.problem.specs.Meets.{meets}
use Rattle.problem.specs.declared.parts.ProblemParts.{ProblemParts}
use Rattle.report.specs.Placed.{placement_text}
use Rattle.solver.specs.Owed.{placed}
use Rattle.answers.specs.Said.{answered}
use Rattle.answers.specs.declared.answer.Status.TheVariants.{Done}
use Rattle.solver.proofs.pins.found.Goals as goal

pub returns : goal.returns
returns c =
    let p = c.args.p.now in
    let at = c.in_ok-at.at.items in
    let low : IsLeast p.shape (meets p) at =
    subst (λ (q : ProblemParts). IsLeast q.shape (meets p) at) c.parts.ensures
    (c.in_ok-at.ensures.least (meets p) (subst (λ (q : ProblemParts). IsAnswer q.shape (meets p) (Some c.args.rank)) (sym c.parts.ensures) c.requires)) in
    placed at low (ap (answered Done) (c.of.ensures ∙ c.in_ok-text.ensures ∙ ap (λ (l : List ℕ). placement_text p l) c.as_slice.ensures.value))
