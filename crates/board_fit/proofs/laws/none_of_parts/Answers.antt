use Rattle.board_fit.proofs.LawLemmas as law
use Rattle.board_fit.proofs.PartLemmas as parts
use Rattle.board_fit.proofs.laws.none_of_parts.Goals as goal

pub returns-clause-unplaced : goal.returns-clause-unplaced
returns-clause-unplaced c t p opts board none = parts.none_placed t p opts board none

pub returns-clause-unclocked : goal.returns-clause-unclocked
returns-clause-unclocked c t p opts at board placement ok = law.none t p opts at board placement ok

pub returns-clause-either : goal.returns-clause-either
returns-clause-either c t p opts board = law.either t p opts board
