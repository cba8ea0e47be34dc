use Rattle.std.proofs.Common.{◌≡◌, ℕ, List, Some, subst, sym}
use Rattle.choice_rank.specs.Least.{IsAnswer, IsLeast}
use Rattle.problem.specs.Meets.{meets}
use Rattle.problem.specs.declared.parts.ProblemParts.{ProblemParts}
use Rattle.ioc_answer.proofs.owed.found.Goals as goal

pub written-requires-clause-least : goal.written-requires-clause-least
written-requires-clause-least c =
    let p = c.args.p.now in
    let at = c.in_ok-at.at.items in
    let low : IsLeast p.shape (meets p) at =
    subst (λ (q : ProblemParts). IsLeast q.shape (meets p) at) c.parts.ensures
    (c.in_ok-at.ensures.least (meets p) (subst (λ (q : ProblemParts). IsAnswer q.shape (meets p) (Some c.args.rank)) (sym c.parts.ensures) c.requires.answer)) in
    subst (λ (l : List ℕ). IsLeast p.shape (meets p) l) (sym c.as_slice.ensures.value) low
