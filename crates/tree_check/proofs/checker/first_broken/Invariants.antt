use Rattle.tree_check.proofs.LoopLemmas.{StandsAt}
use Rattle.tree_check.proofs.checker.first_broken.Given as goal

abbrev pub invariant-loop-number : goal.invariant-loop-number
invariant-loop-number g l = StandsAt (g.R.Refuter.meaning l.r) l.bound l.nodes l.number l.due.items
