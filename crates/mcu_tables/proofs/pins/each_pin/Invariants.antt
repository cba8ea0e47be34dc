use Rattle.std.proofs.Common.{◌≡◌, [], length, map, drop}
use Rattle.table_members.specs.Forms.{entries_after}
use Rattle.mcu_tables.specs.Table.{pin}
use Rattle.serde_json.specs.View.{view}
use Rattle.table_members.specs.Places.{path_of}
use Rattle.table_members.specs.declared.place.Spot.TheVariants.{Top}
use Rattle.table_members.specs.declared.place.Key.TheVariants.{Pins}
use Rattle.mcu_tables.proofs.pins.each_pin.Given as goal

abbrev pub invariant-loop-value : goal.invariant-loop-value
invariant-loop-value l = record {
  counted : length l.found.items ≡ l.value-index;
  read : entries_after pin (path_of (Top Pins)) l.found.items (map view (drop l.value-index l.values)) ≡ entries_after pin (path_of (Top Pins)) [] (map view l.values);
}
