use Rattle.std.proofs.Common.{◌≡◌, ◌≤◌, length}
use Rattle.refutation.specs.Reading.{lines_of, proof_from, proof_of}
use Rattle.refutation.proofs.read.after_first_line.Given as goal

abbrev pub invariant-skip : goal.invariant-skip
invariant-skip l = record {
  same : proof_of l.text ≡ proof_from l.number (lines_of l.rest);
  shorter : length l.rest ≤ length l.text;
}

abbrev pub decreases-skip : goal.decreases-skip
decreases-skip l = length l.rest
