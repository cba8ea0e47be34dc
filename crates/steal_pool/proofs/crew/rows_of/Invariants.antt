use Rattle.std.proofs.Common.{◌≡◌, length}
use Rattle.res_base.specs.Lists.{Each}
use Rattle.steal_pool.specs.Crews.{owner_deques, IsFresh, IsFreshRow}
use Rattle.steal_pool.proofs.crew.rows_of.Given as goal

abbrev pub invariant-loop : goal.invariant-loop
invariant-loop l = record {
  count : length l.rows.items ≡ l.counter;
  owners : length l.owners.items ≡ length l.initial.owners.items;
  fresh : Each (IsFresh l.counter) l.owners.items;
  rows : Each (IsFreshRow (owner_deques l.owners.items)) l.rows.items;
}
