use Rattle.pin_match.proofs.ExchangeLemmas.{exactly}
use Rattle.pin_match.proofs.laws.largest_where_closed.Goals as goal

pub returns : goal.returns
returns c n m fits f reached rank a s = exactly n m fits f reached rank a s
