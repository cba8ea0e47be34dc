use Rattle.std.proofs.Common.{◌≡◌, ℕ, ◌+◌, take, drop}
use Rattle.res_base.specs.Lists.{Each}
use Rattle.best_word.specs.declared.part.Part.TheVariants.{First}
use Rattle.path_deque.specs.declared.deque.Owner.{Owner}
use Rattle.path_deque.specs.Ends.{owner_tally}
use Rattle.steal_worker.specs.Jobs.{thief_deques}
use Rattle.steal_pool.specs.Crews.{owner_deques, IsFresh, IsFreshThief}
use Rattle.steal_pool.proofs.crew.thieves_of.Given as goal

abbrev pub invariant-loop-k : goal.invariant-loop-k
invariant-loop-k l = record {
  first : Each (λ (o : Owner). (owner_tally o).part ≡ First) l.owners;
  same : owner_deques l.owners ≡ owner_deques l.initial.owners;
  row : Each IsFreshThief l.thieves.items;
  deques : thief_deques l.thieves.items ≡ owner_deques (take l.k l.initial.owners);
  fresh : (n : ℕ) → Each (IsFresh n) l.initial.owners → Each (IsFresh (n + 1)) (take l.k l.owners) × Each (IsFresh n) (drop l.k l.owners);
}
