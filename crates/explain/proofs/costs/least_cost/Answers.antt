use Rattle.std.proofs.Common.{ℕ, Option, subst}
use Rattle.choice_rank.specs.Least.{IsAnswer}
use Rattle.problem.specs.Meets.{meets}
use Rattle.explain.proofs.costs.least_cost.Goals as goal

pub returns : goal.returns
returns c = subst (λ (best : Option ℕ). IsAnswer c.args.p.shape (meets c.args.p) best) c.in-None.is c.in_ok-problem.ensures.answer
