use Rattle.path_deque.proofs.Moves.{begins}
use Rattle.path_deque.proofs.deque.Owner.new.Goals as goal

pub lifo_as-requires : goal.lifo_as-requires
lifo_as-requires c = begins
