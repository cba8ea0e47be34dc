use Rattle.std.proofs.Common.{◌≡◌, ℕ, ◌+◌, length}
use Rattle.res_base.specs.Lists.{Each, total}
use Rattle.steal_pool.specs.Crews.{owner_deques, IsOwner, IsRow}
use Rattle.steal_pool.specs.Joined.{put_by, got_by, stolen_by}
use Rattle.steal_pool.proofs.back.close_all.Given as goal

abbrev pub decreases-loop-owner : goal.decreases-loop-owner
decreases-loop-owner g l = length l.owners.items

abbrev pub invariant-loop-owner : goal.invariant-loop-owner
invariant-loop-owner g l = record {
  owners : Each (IsOwner (length l.initial.rows.items)) l.owners.items;
  rows : Each (IsRow (owner_deques l.owners.items)) l.rows.items;
  count : length l.rows.items ≡ length l.initial.rows.items;
  even : (h : ℕ → ℕ) → put_by h l.initial.owners.items + total h l.initial.left.items + (got_by h l.owners.items + stolen_by h l.rows.items)
      ≡ got_by h l.initial.owners.items + stolen_by h l.initial.rows.items + total h l.left.items + put_by h l.owners.items;
}
