use Rattle.std.proofs.Common.{◌≡◌, take}
use Rattle.box_split.specs.Boxes.{whole}
use Rattle.box_split.specs.BoxIn.{runs_in}
use Rattle.box_split.proofs.parts.make_whole.Given as goal

abbrev pub invariant-loop-i : goal.invariant-loop-i
invariant-loop-i l = runs_in l.i l.lo l.hi ≡ whole (take l.i l.vars)
