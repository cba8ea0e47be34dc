use Rattle.search_core.proofs.TurnLemmas.{run_ordered}
use Rattle.search_core.proofs.laws.own_boxes_stay_in_order.Goals as goal

pub returns : goal.returns
returns c m workers events core w deque hand lawful runs at own = run_ordered m lawful workers events core runs w deque hand at own
