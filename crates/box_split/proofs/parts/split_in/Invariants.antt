use Rattle.box_split.specs.BoxIn.{AreSingle}
use Rattle.box_split.proofs.parts.split_in.Given as goal

abbrev pub invariant-loop-i : goal.invariant-loop-i
invariant-loop-i l = AreSingle l.i l.lo l.hi
