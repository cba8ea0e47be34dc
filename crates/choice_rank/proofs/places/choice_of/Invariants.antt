use Rattle.choice_rank.proofs.DigitLemmas.{Written}
use Rattle.choice_rank.proofs.places.choice_of.Given as goal

abbrev pub invariant-loop-i : goal.invariant-loop-i
invariant-loop-i l = Written l.vars l.at l.number l.rest l.i
