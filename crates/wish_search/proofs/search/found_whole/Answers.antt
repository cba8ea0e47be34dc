use Rattle.std.proofs.Common.{subst, ◌∙◌}
use Rattle.box_rules.specs.Judged.{whole_meaning}
use Rattle.least_search.specs.Found.{IsFound}
use Rattle.problem.specs.declared.parts.ProblemParts.{ProblemParts}
use Rattle.wish_search.proofs.search.found_whole.Goals as goal

pub returns-clause-found : goal.returns-clause-found
returns-clause-found c =
    subst (λ (p : ProblemParts). IsFound (whole_meaning p) c.in_ok-found.found) (c.in_ok-judge.ensures ∙ c.in_ok-problem.ensures.problem) c.in_ok-found.ensures
