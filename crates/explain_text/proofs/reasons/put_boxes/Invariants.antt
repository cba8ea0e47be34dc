use Rattle.std.proofs.Common.{◌≡◌, ◌++◌}
use Rattle.explain_text.specs.Reasons.{limit_boxes}
use Rattle.explain_text.specs.Joined.{joined}
use Rattle.explain_text.proofs.reasons.put_boxes.Given as goal

abbrev pub invariant-loop-i : goal.invariant-loop-i
invariant-loop-i l = l.out.items ≡ l.initial.out.items ++ joined l.i (limit_boxes l.nodes)
