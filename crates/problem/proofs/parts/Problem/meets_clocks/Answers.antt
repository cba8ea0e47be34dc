use Rattle.std.proofs.Common.{sym, subst}
use Rattle.res_model.specs.Clock.{IsInRange}
use Rattle.problem.proofs.ChosenLemmas.{clock_in_range}
use Rattle.problem.proofs.parts.Problem.meets_clocks.Goals as goal

pub broken-requires-clause-choice : goal.broken-requires-clause-choice
broken-requires-clause-choice c = subst IsInRange (sym c.clock_of.ensures) (clock_in_range c.args.self.now c.parts_agree.ensures c.requires.whole c.args.at.now c.requires.choice)
