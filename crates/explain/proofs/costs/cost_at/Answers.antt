use Rattle.std.proofs.Common.{◌≡◌, ◌∙◌, ℕ, List, Some, ap, subst, sym}
use Rattle.choice_rank.specs.Choices.{cost_of}
use Rattle.choice_rank.specs.Least.{IsAnswer, IsLeast}
use Rattle.problem.specs.Meets.{meets}
use Rattle.problem.specs.declared.parts.ProblemParts.{ProblemParts}
use Rattle.explain.proofs.costs.cost_at.Goals as goal

pub returns : goal.returns
returns c =
    let p = c.args.p.now in
    let at = c.in_ok-at.at.items in
    let answer = subst (λ (q : ProblemParts). IsAnswer q.shape (meets p) (Some c.args.rank)) (sym c.parts.ensures) c.requires in
    let low : IsLeast p.shape (meets p) at = subst (λ (q : ProblemParts). IsLeast q.shape (meets p) at) c.parts.ensures (c.in_ok-at.ensures.least (meets p) answer) in
    let cost : cost_of p.shape at ≡ c.cost_of.result = ap (λ (l : List ℕ). cost_of p.shape l) (sym c.as_slice.ensures.value) ∙ sym c.cost_of.ensures in
    (at, low, cost)
