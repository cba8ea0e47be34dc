use Rattle.std.proofs.Common.{subst, sym}
use Rattle.box_rules.specs.Judged.{whole_meaning}
use Rattle.least_search.specs.Found.{IsFound}
use Rattle.problem.specs.declared.parts.ProblemParts.{ProblemParts}
use Rattle.board_fit.proofs.boards.clocked.Goals as goal

pub clocks_told-requires-clause-found : goal.clocks_told-requires-clause-found
clocks_told-requires-clause-found c =
    subst (λ (q : ProblemParts). IsFound (whole_meaning q) c.in_ok-judge.field-0.found) (sym c.in_ok-judge.ensures.judge) c.in_ok-judge.ensures.found
