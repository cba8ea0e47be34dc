use Rattle.can_timing.proofs.OrderLemmas.{comes_first, is_lower}
use Rattle.can_timing.proofs.laws.lower_ranks_come_first.Goals as goal

pub returns : goal.returns
returns c = λ choice other i j. (comes_first choice other i j, is_lower choice other i j)
