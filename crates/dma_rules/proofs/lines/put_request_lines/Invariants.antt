use Rattle.std.proofs.Common.{◌≡◌, ◌++◌, drop}
use Rattle.dma_rules.specs.Streams.{rows_of}
use Rattle.dma_rules.specs.Texts.{request_lines}
use Rattle.dma_rules.proofs.lines.put_request_lines.Given as goal

abbrev pub invariant-loop-place : goal.invariant-loop-place
invariant-loop-place l = l.out.items ++ request_lines (drop l.place l.requests) (drop l.place (rows_of l.requests l.at)) ≡ l.fn.out.items ++ request_lines l.requests (rows_of l.requests l.at)
