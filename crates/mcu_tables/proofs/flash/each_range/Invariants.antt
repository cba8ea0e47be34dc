use Rattle.std.proofs.Common.{◌≡◌, [], map, drop}
use Rattle.table_members.specs.Forms.{entries_after}
use Rattle.mcu_tables.specs.Table.{flash_range}
use Rattle.serde_json.specs.View.{view}
use Rattle.table_members.specs.Places.{path_of}
use Rattle.table_members.specs.declared.place.Spot.TheVariants.{Top}
use Rattle.table_members.specs.declared.place.Key.TheVariants.{Flash}
use Rattle.mcu_tables.proofs.flash.each_range.Given as goal

abbrev pub invariant-loop-value : goal.invariant-loop-value
invariant-loop-value l = entries_after flash_range (path_of (Top Flash)) l.found.items (map view (drop l.value-index l.values)) ≡ entries_after flash_range (path_of (Top Flash)) [] (map view l.values)
