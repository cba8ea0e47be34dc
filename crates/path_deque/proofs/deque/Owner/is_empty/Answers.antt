use Rattle.path_deque.proofs.Moves.{looks}
use Rattle.path_deque.proofs.deque.Owner.is_empty.Goals as goal

pub len_as-requires : goal.len_as-requires
len_as-requires c = looks _ _
