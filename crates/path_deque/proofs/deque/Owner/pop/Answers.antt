use Rattle.path_deque.proofs.Moves.{pops, finds}
use Rattle.path_deque.proofs.deque.Owner.pop.Goals as goal

pub pop_as-requires-clause-lifo : goal.pop_as-requires-clause-lifo
pop_as-requires-clause-lifo c lifo = pops _ _ c.requires

pub pop_as-requires-clause-empty : goal.pop_as-requires-clause-empty
pop_as-requires-clause-empty c = finds _ _
