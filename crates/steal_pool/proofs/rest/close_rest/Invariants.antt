use Rattle.std.proofs.Common.{◌≡◌, ℕ, ◌+◌, List, [], length}
use Rattle.res_base.specs.Lists.{total}
use Rattle.best_word.specs.Handles.{IsSeatOf, best_view}
use Rattle.steal_worker.specs.Flows.{Flows}
use Rattle.steal_worker.specs.Walks.{Walks, held_places}
use Rattle.steal_pool.proofs.rest.close_rest.Given as goal

abbrev pub decreases-loop-path : goal.decreases-loop-path
decreases-loop-path g l = length l.left.items

abbrev pub invariant-loop-path : goal.invariant-loop-path
invariant-loop-path g l = record {
  seat : IsSeatOf l.word l.seat;
  view : best_view l.seat ≡ best_view l.initial.seat;
  own : IsSeatOf l.word l.walker.seat;
  fits : g.J.Judge.fits l.j l.walker.scratch;
  number : l.walker.number ≡ l.number;
  none_held : held_places l.walker.held ≡ [];
  walks : Walks (g.J.Judge.meaning l.j) l.walker.number [] (best_view l.walker.seat) [] l.walker.closed;
  taken : List ℕ;
  all : (h : ℕ → ℕ) → total h taken + total h l.left.items ≡ total h l.initial.left.items;
  flows : Flows (g.J.Judge.meaning l.j) (λ h. total h taken) (λ h. 0) [] [] l.walker.closed;
}
