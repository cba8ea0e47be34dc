use Rattle.std.proofs.Common.{◌≡◌, ◌++◌}
use Rattle.explain_text.specs.Changes.{change_at}
use Rattle.explain_text.specs.Joined.{joined}
use Rattle.explain_text.proofs.changes.put_changes.Given as goal

abbrev pub invariant-loop-i : goal.invariant-loop-i
invariant-loop-i l = l.out.items ≡ l.initial.out.items ++ joined l.i (change_at l.p l.at)
