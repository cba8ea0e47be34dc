use Rattle.joined_choices.proofs.JoinLemmas.{least_suffix, least_prefix, least_joined}
use Rattle.joined_choices.proofs.laws.least_choice_is_of_least_parts.Goals as goal

pub returns : goal.returns
returns c vs ws legal f b prefix suffix parts hx hy = (
  λ l. (least_prefix vs ws legal f b parts prefix suffix hx hy l, least_suffix vs ws legal f b parts prefix suffix hx hy l),
  λ h. least_joined vs ws legal f b parts prefix suffix h.0 h.1,
)
