use Rattle.std.proofs.Common.{◌≤◌, length}
use Rattle.trace_answer.proofs.PartLemmas.{ClosesFrom}
use Rattle.trace_answer.proofs.part.close_at.Given as goal

abbrev pub invariant-lines : goal.invariant-lines
invariant-lines l = record {
  closes : ClosesFrom l.text l.rest;
  shorter : length l.rest ≤ length l.text;
}

abbrev pub decreases-lines : goal.decreases-lines
decreases-lines l = length l.rest
