use Rattle.board_fit.proofs.LawLemmas as law
use Rattle.board_fit.proofs.laws.least_of_parts.Goals as goal

pub returns : goal.returns
returns c t p opts clocks at board chosen placement = law.least t p opts clocks at board chosen placement
