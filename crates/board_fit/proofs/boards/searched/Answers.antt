use Rattle.std.proofs.Common.{subst, sym}
use Rattle.box_rules.specs.Judged.{pin_meaning}
use Rattle.least_search.specs.Found.{IsFound}
use Rattle.problem.specs.declared.parts.ProblemParts.{ProblemParts}
use Rattle.board_fit.proofs.boards.searched.Goals as goal

pub pins_told-requires-clause-found : goal.pins_told-requires-clause-found
pins_told-requires-clause-found c = subst (λ (x : ProblemParts). IsFound (pin_meaning x) c.in_ok-outcome.outcome) (sym c.problem.ensures) c.in_ok-outcome.ensures
