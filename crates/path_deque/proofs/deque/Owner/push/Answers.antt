use Rattle.path_deque.proofs.Moves.{pushes}
use Rattle.path_deque.proofs.deque.Owner.push.Goals as goal

pub push_as-requires-clause-pushes : goal.push_as-requires-clause-pushes
push_as-requires-clause-pushes c = pushes _ _ _ c.requires
