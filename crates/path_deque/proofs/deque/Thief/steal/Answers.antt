use Rattle.path_deque.proofs.Moves.{takes}
use Rattle.path_deque.proofs.deque.Thief.steal.Goals as goal

pub steal_as-requires-clause-takes : goal.steal_as-requires-clause-takes
steal_as-requires-clause-takes c = takes _ _ 1 c.args.self.now.live
