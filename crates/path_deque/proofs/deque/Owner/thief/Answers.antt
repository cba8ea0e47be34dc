use Rattle.path_deque.proofs.Moves.{forks}
use Rattle.path_deque.proofs.deque.Owner.thief.Goals as goal

pub another-pass-requires : goal.another-pass-requires
another-pass-requires c = forks _ _ c.requires
