use Rattle.std.proofs.Common.{◌≡◌, ◌+◌, ◌≤◌, drop}
use Rattle.choice_rank.specs.Choices.{cost_of}
use Rattle.choice_rank.proofs.places.cost_in.Given as goal

abbrev pub invariant-loop-i : goal.invariant-loop-i
invariant-loop-i l = record {
  cost : l.cost + cost_of (drop l.i l.vars) (drop l.i l.at) ≡ cost_of l.vars l.at;
  most : l.cost ≤ l.i;
}
