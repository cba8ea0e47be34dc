use Rattle.clock_limits.proofs.SingleLemmas.{one_choice_is_exact}
use Rattle.clock_limits.proofs.laws.one_choice_is_exact.Goals as goal

pub returns : goal.returns
returns c = one_choice_is_exact
