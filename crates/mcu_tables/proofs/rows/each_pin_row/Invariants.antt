use Rattle.std.proofs.Common.{◌≡◌, [], map, drop}
use Rattle.table_members.specs.Forms.{entries_after}
use Rattle.mcu_tables.specs.Table.{pin_row}
use Rattle.serde_json.specs.View.{view}
use Rattle.table_members.specs.Places.{path_of}
use Rattle.mcu_tables.proofs.rows.each_pin_row.Given as goal

abbrev pub invariant-loop-value : goal.invariant-loop-value
invariant-loop-value l = entries_after (pin_row l.pins l.mode) (path_of l.at) l.found.items (map view (drop l.value-index l.values)) ≡ entries_after (pin_row l.pins l.mode) (path_of l.at) [] (map view l.values)
