use Rattle.std.proofs.Common.{take}
use Rattle.dma_rules.specs.Wanted.{AreWanted}
use Rattle.dma_rules.proofs.want.wanted_of.Given as goal

abbrev pub invariant-loop-place : goal.invariant-loop-place
invariant-loop-place l = AreWanted l.table (take l.place l.words) l.found
