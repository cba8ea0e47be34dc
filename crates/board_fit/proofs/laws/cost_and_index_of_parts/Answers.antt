use Rattle.board_fit.proofs.LawLemmas as law
use Rattle.board_fit.proofs.laws.cost_and_index_of_parts.Goals as goal

pub returns-clause-cost : goal.returns-clause-cost
returns-clause-cost c t p opts clocks at board chosen placement = law.cost t p opts clocks at board chosen placement

pub returns-clause-index : goal.returns-clause-index
returns-clause-index c t p opts clocks at board chosen placement = law.index t p opts clocks at board chosen placement
