use Rattle.ioc_text.proofs.Orders.{IsLeastBelow}
use Rattle.ioc_text.proofs.marks.first_repeat.Given as goal

abbrev pub invariant-loop-at : goal.invariant-loop-at
invariant-loop-at l = IsLeastBelow l.lines l.marks l.at l.first
