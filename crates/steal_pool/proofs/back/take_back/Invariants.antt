use Rattle.std.proofs.Common.{◌≡◌, ℕ, ◌+◌, length}
use Rattle.res_base.specs.Lists.{Each, total}
use Rattle.path_deque.specs.declared.deque.Thief.{Thief}
use Rattle.path_deque.specs.Ends.{owner_tally, owner_deque, thief_deque}
use Rattle.steal_worker.specs.Jobs.{stolen, IsThief}
use Rattle.steal_pool.specs.Crews.{IsOwner}
use Rattle.steal_pool.proofs.back.take_back.Given as goal

abbrev pub decreases-loop-thief : goal.decreases-loop-thief
decreases-loop-thief l = length l.thieves.items

abbrev pub invariant-loop-thief : goal.invariant-loop-thief
invariant-loop-thief l = record {
  same : owner_deque l.owner ≡ owner_deque l.initial.owner;
  ends : Each IsThief l.thieves.items;
  of : Each (λ (t : Thief). thief_deque t ≡ owner_deque l.initial.owner) l.thieves.items;
  owner : IsOwner (length l.thieves.items) l.owner;
  put : (owner_tally l.owner).put ≡ (owner_tally l.initial.owner).put;
  got : (h : ℕ → ℕ) → total h (owner_tally l.owner).got + stolen h l.thieves.items ≡ total h (owner_tally l.initial.owner).got + stolen h l.initial.thieves.items;
}
