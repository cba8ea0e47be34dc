use Rattle.choice_rank.proofs.WidthLemmas.{Grown}
use Rattle.choice_rank.proofs.shape.measured.Given as goal

abbrev pub invariant-loop-i : goal.invariant-loop-i
invariant-loop-i l = Grown l.vars l.product l.most l.i
