use Rattle.std.proofs.Common.{◌<◌, subst, arith}
use Rattle.best_word.specs.Handles.{best_view}
use Rattle.steal_worker.specs.Walks.{known, IsAtMost}
use Rattle.steal_worker.proofs.WalkActs.{looked_rank, seen_rank, most_rank}
use Rattle.steal_worker.proofs.walker.look.Goals as goal

pub returns-then-rank-low-clause-looked : goal.returns-then-rank-low-clause-looked
returns-then-rank-low-clause-looked g c = looked_rank (best_view c.args.seat.now) (best_view c.see.new.seat) c.in-Some.rank c.in-Some.ensures.saw

pub returns-then-rank-low-clause-cut : goal.returns-then-rank-low-clause-cut
returns-then-rank-low-clause-cut g c = (subst (λ n. c.in-Some.rank < n) c.place_low-low.ensures c.if-rank-low.true, seen_rank (best_view c.args.seat.now) (best_view c.see.new.seat) c.in-Some.rank c.in-Some.ensures.saw)

pub returns-else-rank-low-clause-looked : goal.returns-else-rank-low-clause-looked
returns-else-rank-low-clause-looked g c = looked_rank (best_view c.args.seat.now) (best_view c.see.new.seat) c.in-Some.rank c.in-Some.ensures.saw

pub returns-else-rank-low-clause-cut : goal.returns-else-rank-low-clause-cut
returns-else-rank-low-clause-cut g c = subst (λ n. IsAtMost n (known (best_view c.see.new.seat))) c.place_low-low.ensures (most_rank (best_view c.args.seat.now) (best_view c.see.new.seat) c.in-Some.rank c.place_low-low.result c.in-Some.ensures.saw (let f = c.if-rank-low.false in omega (arith, f)))
