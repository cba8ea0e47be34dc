use Rattle.std.proofs.Common.{length, ap, arith}
use Rattle.box_rules.proofs.MemberLemmas.{few_members}
use Rattle.box_judge.proofs.contest.Contest.new.Goals as goal

pub new-requires-2-clause-variables : goal.new-requires-2-clause-variables
new-requires-2-clause-variables c = omega (arith, c.requires, c.len-2.ensures, ap length c.in_ok-members.ensures, few_members c.args.class 0 c.args.uses.now)
