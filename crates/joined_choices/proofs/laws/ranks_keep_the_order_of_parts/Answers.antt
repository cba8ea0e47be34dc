use Rattle.joined_choices.proofs.JoinLemmas.{suffix_le, prefix_le, joined_le}
use Rattle.joined_choices.proofs.laws.ranks_keep_the_order_of_parts.Goals as goal

pub returns-clause-both : goal.returns-clause-both
returns-clause-both c = λ vs ws prefix suffix other rest a b d e l m. joined_le vs ws prefix suffix other rest a b d e l m

pub returns-clause-prefix : goal.returns-clause-prefix
returns-clause-prefix c = λ vs ws prefix other suffix a b d l. prefix_le vs ws prefix other suffix a b d l

pub returns-clause-suffix : goal.returns-clause-suffix
returns-clause-suffix c = λ vs ws prefix suffix rest a b d l. suffix_le vs ws prefix suffix rest a b d l
