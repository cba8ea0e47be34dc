use Rattle.std.proofs.Common.{◌≡◌, take}
use Rattle.dma_rules.proofs.want.copy_rows.Given as goal

abbrev pub invariant-loop-row : goal.invariant-loop-row
invariant-loop-row l = l.found.items ≡ take l.row-index l.rows
