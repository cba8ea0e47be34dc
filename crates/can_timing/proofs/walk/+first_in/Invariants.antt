use Rattle.box_split.specs.Boxes.{size_of}
use Rattle.box_split.specs.BoxIn.{box_in}
use Rattle.can_timing.specs.Timings.{can_shape}
use Rattle.can_timing.proofs.walk.+first_in.Given as goal

abbrev pub decreases-first_in : goal.decreases-first_in
decreases-first_in l = size_of (box_in can_shape l.b.now)
