use Rattle.std.proofs.Common.{◌≡◌, take}
use Rattle.res_model.proofs.copy.copy_rows.Given as goal

abbrev pub invariant-loop-row : goal.invariant-loop-row
invariant-loop-row l = l.found.items ≡ take l.row-index l.rows
