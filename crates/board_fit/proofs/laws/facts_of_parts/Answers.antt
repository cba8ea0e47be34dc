use Rattle.board_fit.proofs.LawLemmas as law
use Rattle.board_fit.proofs.PartLemmas as parts
use Rattle.board_fit.proofs.laws.facts_of_parts.Goals as goal

pub returns-clause-facts : goal.returns-clause-facts
returns-clause-facts c t p opts at board placement = parts.clocks_facts t p opts board at placement

pub returns-clause-clock : goal.returns-clause-clock
returns-clause-clock c t p opts at board placement = parts.clocks_values t p opts board at placement

pub returns-clause-shape : goal.returns-clause-shape
returns-clause-shape c t p opts at board placement = parts.clocks_shape t p opts board at placement

pub returns-clause-whole : goal.returns-clause-whole
returns-clause-whole c t p opts board = law.whole_shape t p opts board

pub returns-clause-uses : goal.returns-clause-uses
returns-clause-uses c t p opts at board placement = law.uses t p opts at board placement
