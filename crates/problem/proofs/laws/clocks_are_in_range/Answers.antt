use Rattle.problem.proofs.ChosenLemmas.{clock_in_range}
use Rattle.problem.proofs.laws.clocks_are_in_range.Goals as goal

pub returns : goal.returns
returns c p at agree whole choice = clock_in_range p agree whole at choice
