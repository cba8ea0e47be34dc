use Rattle.std.proofs.Common.{Some, subst, List}
use Rattle.choice_rank.specs.declared.variable.VarShape.{VarShape}
use Rattle.choice_rank.specs.Least.{IsAnswer, IsLeast}
use Rattle.problem.specs.Meets.{meets}
use Rattle.wish_search.proofs.search.choice_found.Goals as goal

pub returns : goal.returns
returns c =
    let p = c.args.judge.now.problem in
    subst (λ (vs : List VarShape). IsAnswer vs (meets p) (Some c.args.rank) → IsLeast vs (meets p) c.in_ok-at.at.items) c.shape.ensures (c.in_ok-at.ensures.least (meets p)) c.requires
