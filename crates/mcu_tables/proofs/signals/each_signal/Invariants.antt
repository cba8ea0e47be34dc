use Rattle.std.proofs.Common.{◌≡◌, [], map, drop}
use Rattle.table_members.specs.Forms.{entries_after}
use Rattle.mcu_tables.specs.Table.{signal}
use Rattle.serde_json.specs.View.{view}
use Rattle.table_members.specs.Places.{path_of}
use Rattle.mcu_tables.specs.Seen.{AreSeen}
use Rattle.table_members.specs.declared.place.Spot.TheVariants.{Top}
use Rattle.table_members.specs.declared.place.Key.TheVariants.{Signals}
use Rattle.mcu_tables.proofs.signals.each_signal.Given as goal

abbrev pub invariant-loop-value : goal.invariant-loop-value
invariant-loop-value l = record {
  seen : AreSeen l.found.items l.seen;
  read : entries_after (signal l.pins) (path_of (Top Signals)) l.found.items (map view (drop l.value-index l.values)) ≡ entries_after (signal l.pins) (path_of (Top Signals)) [] (map view l.values);
}
