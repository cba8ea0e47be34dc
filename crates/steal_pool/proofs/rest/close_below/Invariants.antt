use Rattle.std.proofs.Common.{◌≡◌, [], ◌∷◌, false}
use Rattle.best_word.specs.Handles.{IsSeatOf, best_view}
use Rattle.steal_worker.specs.Flows.{FlowsOn}
use Rattle.steal_worker.specs.Walks.{Walks, held_places, in_hand}
use Rattle.steal_pool.proofs.rest.close_below.Given as goal

abbrev pub invariant-loop : goal.invariant-loop
invariant-loop g l = record {
  seat : IsSeatOf l.word l.walker.seat;
  fits : g.J.Judge.fits l.j l.walker.scratch;
  number : l.walker.number ≡ l.initial.walker.number;
  none : l.more ≡ false → held_places l.walker.held ≡ [];
  walks : Walks (g.J.Judge.meaning l.j) l.walker.number (in_hand l.more l.hand) (best_view l.walker.seat) (held_places l.walker.held) l.walker.closed;
  flows : FlowsOn (g.J.Judge.meaning l.j) (l.initial.hand ∷ []) (held_places l.initial.walker.held) l.initial.walker.closed (in_hand l.more l.hand) (held_places l.walker.held) l.walker.closed;
}
