use Rattle.std.proofs.Common.{length}
use Rattle.best_word.specs.Handles.{IsSeatOf, best_view, judge_of}
use Rattle.steal_pool.specs.Crews.{Deques, IsTakingIn}
use Rattle.steal_pool.proofs.gather.gather.Given as goal

abbrev pub decreases-loop-shift : goal.decreases-loop-shift
decreases-loop-shift g l = length l.shifts.items

abbrev pub invariant-loop-shift : goal.invariant-loop-shift
invariant-loop-shift g l = IsSeatOf l.word l.seat × ((all : Deques) × IsTakingIn (g.J.Judge.meaning (judge_of l.word)) l.word (length l.initial.shifts.items) all (best_view l.seat) l.gathered l.shifts.items)
