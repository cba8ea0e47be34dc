use Rattle.std.proofs.Common.{◌≡◌, ◌++◌, drop}
use Rattle.box_rules.specs.Contest.{members_of}
use Rattle.box_judge.proofs.contest.members_of.Given as goal

abbrev pub invariant-loop-s : goal.invariant-loop-s
invariant-loop-s l = l.members.items ++ members_of l.class l.s (drop l.s l.uses) ≡ members_of l.class 0 l.uses
