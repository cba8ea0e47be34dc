use Rattle.board_fit.proofs.FixLemmas.{SettledSoFar}
use Rattle.board_fit.proofs.fixing.settle_all.Given as goal

abbrev pub invariant-loop-k : goal.invariant-loop-k
invariant-loop-k l = SettledSoFar l.q l.at l.initial.signals l.signals l.k
