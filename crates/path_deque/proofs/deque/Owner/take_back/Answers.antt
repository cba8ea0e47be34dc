use Rattle.path_deque.proofs.Moves.{merges}
use Rattle.path_deque.proofs.deque.Owner.take_back.Goals as goal

pub absorb-requires-clause-rule : goal.absorb-requires-clause-rule
absorb-requires-clause-rule c = merges _ _ _ _ c.requires.parts.0 c.requires.parts.1
