use Rattle.std.proofs.Common.{◌≡◌, false, ◌+◌, ◌≤◌, ◌++◌, length}
use Rattle.std.specs.Prelude.{map}
use Rattle.std.specs.List.{concat}
use Rattle.res_base.specs.Lists.{Each}
use Rattle.c_print.specs.Text.{op_line, awaits_over}
use Rattle.c_print.specs.Reading.{FitsLine}
use Rattle.c_print.proofs.read.ops_in.Given as goal

abbrev pub invariant-loop-op : goal.invariant-loop-op
invariant-loop-op l = record {
  fit : Each FitsLine l.ops.items;
  named : l.over ≡ false → awaits_over l.ops.items ≡ false;
  is : l.text ≡ concat (map op_line l.ops.items) ++ l.rest;
  few : length l.ops.items + length l.rest ≤ length l.text;
}

abbrev pub decreases-loop-op : goal.decreases-loop-op
decreases-loop-op l = length l.rest
