use Rattle.std.proofs.Common.{◌≡◌, ◌++◌}
use Rattle.explain_text.specs.Reasons.{member_line}
use Rattle.explain_text.specs.Joined.{joined}
use Rattle.explain_text.proofs.rivals.put_members.Given as goal

abbrev pub invariant-loop-v : goal.invariant-loop-v
invariant-loop-v l = l.out.items ≡ l.initial.out.items ++ joined l.v (member_line l.p l.vars)
