use Rattle.std.proofs.Common.{◌≡◌, [], map, drop}
use Rattle.table_members.specs.Forms.{entries_after}
use Rattle.mcu_tables.specs.Table.{alt_row}
use Rattle.serde_json.specs.View.{view}
use Rattle.table_members.specs.Places.{path_of}
use Rattle.mcu_tables.proofs.rows.each_alt_row.Given as goal

abbrev pub invariant-loop-value : goal.invariant-loop-value
invariant-loop-value l = entries_after (alt_row l.pins) (path_of l.at) l.found.items (map view (drop l.value-index l.values)) ≡ entries_after (alt_row l.pins) (path_of l.at) [] (map view l.values)
