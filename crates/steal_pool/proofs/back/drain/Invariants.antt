use Rattle.std.proofs.Common.{◌≡◌, ℕ, ◌+◌}
use Rattle.res_base.specs.Lists.{total}
use Rattle.path_deque.specs.Ends.{owner_tally}
use Rattle.steal_pool.specs.Crews.{IsOwner}
use Rattle.steal_pool.proofs.back.drain.Given as goal

abbrev pub invariant-loop : goal.invariant-loop
invariant-loop g l = record {
  owner : IsOwner 0 l.owner;
  put : (owner_tally l.owner).put ≡ (owner_tally l.initial.owner).put;
  got : (h : ℕ → ℕ) → total h (owner_tally l.initial.owner).got + total h l.left.items ≡ total h (owner_tally l.owner).got + total h l.initial.left.items;
}
