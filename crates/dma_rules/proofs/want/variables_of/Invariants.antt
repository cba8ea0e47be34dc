use Rattle.std.proofs.Common.{◌≡◌, ◌++◌, drop}
use Rattle.dma_rules.specs.Streams.{shape_of}
use Rattle.dma_rules.proofs.want.variables_of.Given as goal

abbrev pub invariant-loop-request : goal.invariant-loop-request
invariant-loop-request l = l.vars.items ++ shape_of (drop l.request-index l.requests) ≡ shape_of l.requests
