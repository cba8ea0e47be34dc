use Rattle.std.proofs.Common.{◌≡◌, ◌+◌, ◌≤◌, length}
use Rattle.text_lines.specs.Lines.{lines_of}
use Rattle.trace_answer.specs.Part.{behind, part_in, part_of}
use Rattle.trace_answer.proofs.part.part_of.Given as goal

abbrev pub invariant-lines : goal.invariant-lines
invariant-lines l = record {
  same : part_in l.text ≡ behind l.before (part_of (lines_of l.rest));
  small : l.before + length l.rest ≤ length l.text;
}

abbrev pub decreases-lines : goal.decreases-lines
decreases-lines l = length l.rest
