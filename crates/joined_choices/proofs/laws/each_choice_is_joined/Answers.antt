use Rattle.joined_choices.proofs.JoinLemmas.{choice_join, choice_parts}
use Rattle.joined_choices.proofs.laws.each_choice_is_joined.Goals as goal

pub returns-clause-joins : goal.returns-clause-joins
returns-clause-joins c = λ vs ws prefix suffix h k. choice_join vs ws prefix suffix h k

pub returns-clause-parts : goal.returns-clause-parts
returns-clause-parts c = choice_parts
