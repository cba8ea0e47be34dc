use Rattle.std.proofs.Common.{◌≡◌, ◌+◌, drop}
use Rattle.std.specs.List.{list_any}
use Rattle.dma_rules.specs.Streams.{is_one_stream, row_of, rows_of}
use Rattle.dma_rules.proofs.streams.is_taken_again.Given as goal

abbrev pub invariant-loop-later : goal.invariant-loop-later
invariant-loop-later l = list_any (is_one_stream (row_of l.requests l.at l.place)) (drop l.later (rows_of l.requests l.at)) ≡ list_any (is_one_stream (row_of l.requests l.at l.place)) (drop (l.place + 1) (rows_of l.requests l.at))
