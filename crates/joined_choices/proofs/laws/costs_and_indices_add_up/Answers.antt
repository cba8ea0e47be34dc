use Rattle.joined_choices.proofs.JoinLemmas.{choices_join, cost_join, index_join}
use Rattle.joined_choices.proofs.laws.costs_and_indices_add_up.Goals as goal

pub returns-clause-choices : goal.returns-clause-choices
returns-clause-choices c = choices_join

pub returns-clause-cost : goal.returns-clause-cost
returns-clause-cost c = λ vs ws prefix suffix h. cost_join vs ws prefix suffix h

pub returns-clause-index : goal.returns-clause-index
returns-clause-index c = λ vs ws prefix suffix h. index_join vs ws prefix suffix h
