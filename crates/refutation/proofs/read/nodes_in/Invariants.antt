use Rattle.std.proofs.Common.{◌≡◌, ◌+◌, ◌≤◌, length}
use Rattle.std.specs.Prelude.{map}
use Rattle.refutation.specs.Forms.{form_of}
use Rattle.refutation.specs.Reading.{lines_of, with_prefix, forms_from}
use Rattle.refutation.proofs.read.nodes_in.Given as goal

abbrev pub invariant-loop-due : goal.invariant-loop-due
invariant-loop-due l = record {
  same : forms_from l.first 1 (lines_of l.text) ≡ with_prefix (map form_of l.nodes.items) (forms_from l.number l.due (lines_of l.rest));
  small : l.due + length l.rest ≤ length l.text + 1;
}

abbrev pub decreases-loop-due : goal.decreases-loop-due
decreases-loop-due l = length l.rest
