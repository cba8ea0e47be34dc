use Rattle.std.proofs.Common.{◌≡◌, drop}
use Rattle.ioc_text.specs.Index.{sum_of, sum_from}
use Rattle.ioc_text.proofs.marks.sum_of.Given as goal

abbrev pub invariant-loop-b : goal.invariant-loop-b
invariant-loop-b l = sum_from l.sum (drop l.b-index l.key) ≡ sum_of l.key
