use Rattle.std.proofs.Common.{Some, subst, ℕ, List}
use Rattle.choice_rank.specs.declared.variable.VarShape.{VarShape}
use Rattle.choice_rank.specs.Least.{IsAnswer, IsLeast}
use Rattle.search_api.specs.Meaning.{Meaning}
use Rattle.least_search.proofs.least.choice_found.Goals as goal

pub returns : goal.returns
returns g c =
    let m : Meaning = g.J.Judge.meaning c.args.j.now in
    let least : IsAnswer c.shape.result.now m.legal (Some c.args.rank) → IsLeast c.shape.result.now m.legal c.in_ok-at.at.items = c.in_ok-at.ensures.least m.legal in
    subst (λ (vs : List VarShape). IsAnswer vs m.legal (Some c.args.rank) → IsLeast vs m.legal c.in_ok-at.at.items) c.shape.ensures least c.requires
