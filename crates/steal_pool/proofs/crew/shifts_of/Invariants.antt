use Rattle.std.proofs.Common.{◌≡◌, ◌+◌, [], length}
use Rattle.res_base.specs.Lists.{Each}
use Rattle.best_word.specs.declared.part.Part.TheVariants.{First}
use Rattle.best_word.specs.Handles.{IsSeatOf, best_view}
use Rattle.best_word.specs.Word.{view_of}
use Rattle.steal_pool.specs.Crews.{owner_deques, IsFresh, IsFreshRow, IsSetUp, IsCrew}
use Rattle.steal_pool.proofs.crew.shifts_of.Given as goal

abbrev pub decreases-loop-owner : goal.decreases-loop-owner
decreases-loop-owner g l = length l.owners.items

abbrev pub invariant-loop-owner : goal.invariant-loop-owner
invariant-loop-owner g l = record {
  seat : IsSeatOf l.word l.seat;
  view : best_view l.seat ≡ view_of First (length l.shifts.items) [] [] 0;
  owners : length l.owners.items ≡ l.number;
  rows : length l.rows.items ≡ l.number;
  count : l.number + length l.shifts.items ≡ l.workers;
  fresh : Each (IsFresh l.workers) l.owners.items;
  fresh_rows : Each (IsFreshRow (owner_deques l.initial.owners.items)) l.rows.items;
  crew : IsCrew (IsSetUp (g.J.Judge.meaning l.j) (g.J.Judge.fits l.j) l.word l.workers (owner_deques l.initial.owners.items)) l.number (owner_deques l.owners.items) (owner_deques l.initial.owners.items) l.shifts.items;
}
