use Rattle.joined_choices.proofs.JoinLemmas.{no_prefix, none_suffix, none_prefix}
use Rattle.joined_choices.proofs.laws.none_is_legal_where_no_part_is.Goals as goal

pub returns-clause-prefix : goal.returns-clause-prefix
returns-clause-prefix c = λ vs ws legal f b parts none. none_prefix vs ws legal f b parts none

pub returns-clause-suffix : goal.returns-clause-suffix
returns-clause-suffix c = λ vs ws legal f b parts none. none_suffix vs ws legal f b parts none

pub returns-clause-beside : goal.returns-clause-beside
returns-clause-beside c = λ vs ws legal f b suffix parts choice ok none. no_prefix vs ws legal f b parts suffix choice ok none
