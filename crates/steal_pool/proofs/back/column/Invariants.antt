use Rattle.std.proofs.Common.{◌≡◌, ℕ, ◌+◌, ◌++◌, [], ◌∷◌, take, drop, length}
use Rattle.res_base.specs.Lists.{Each}
use Rattle.path_deque.specs.declared.deque.Thief.{Thief}
use Rattle.path_deque.specs.Ends.{owner_deque, thief_deque}
use Rattle.steal_worker.specs.Jobs.{stolen, IsThief}
use Rattle.steal_pool.specs.Crews.{owner_deques, IsRow}
use Rattle.steal_pool.specs.Joined.{stolen_by}
use Rattle.steal_pool.proofs.back.column.Given as goal

abbrev pub invariant-loop-k : goal.invariant-loop-k
invariant-loop-k l = record {
  done : Each (IsRow (owner_deques l.owners)) (take l.k l.rows);
  ahead : Each (IsRow (owner_deques l.owners ++ owner_deque l.owner ∷ [])) (drop l.k l.rows);
  count : length l.all.items ≡ l.k;
  ends : Each IsThief l.all.items;
  of : Each (λ (t : Thief). thief_deque t ≡ owner_deque l.owner) l.all.items;
  got : (h : ℕ → ℕ) → stolen_by h l.initial.rows ≡ stolen_by h l.rows + stolen h l.all.items;
}
