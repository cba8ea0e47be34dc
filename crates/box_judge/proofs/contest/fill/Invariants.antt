use Rattle.std.proofs.Common.{◌<◌, ℕ}
use Rattle.box_rules.proofs.MemberLemmas.{IsFilled}
use Rattle.box_judge.proofs.contest.fill.Given as goal

abbrev pub invariant-loop-i : goal.invariant-loop-i
invariant-loop-i l = (k : ℕ) → k < l.i → IsFilled l.t l.class l.sets l.members l.uses l.lo l.hi k
