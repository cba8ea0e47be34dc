use Rattle.std.proofs.Common.{◌≡◌, ◌+◌, drop}
use Rattle.choice_rank.specs.Choices.{index_of}
use Rattle.choice_rank.proofs.places.index_in.Given as goal

abbrev pub invariant-loop-i : goal.invariant-loop-i
invariant-loop-i l = l.index + index_of (drop l.i l.vars) (drop l.i l.at) ≡ index_of l.vars l.at
