use Rattle.std.proofs.Common.{◌≡◌, ◌++◌, replicate}
use Rattle.reg_trace.proofs.reading.put_answers.Given as goal

abbrev pub invariant-loop-k : goal.invariant-loop-k
invariant-loop-k l = l.answers.items ≡ l.initial.answers.items ++ replicate l._k l.answer
