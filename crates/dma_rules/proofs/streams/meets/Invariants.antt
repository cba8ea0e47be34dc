use Rattle.std.proofs.Common.{◌≡◌, drop}
use Rattle.dma_rules.specs.Streams.{are_apart, meets, rows_of}
use Rattle.dma_rules.proofs.streams.meets.Given as goal

abbrev pub invariant-loop-place : goal.invariant-loop-place
invariant-loop-place l = are_apart (drop l.place (rows_of l.requests l.at)) ≡ meets l.requests l.at
