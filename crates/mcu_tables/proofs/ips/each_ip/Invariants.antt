use Rattle.std.proofs.Common.{◌≡◌, [], map, drop}
use Rattle.table_members.specs.Forms.{entries_after}
use Rattle.mcu_tables.specs.Table.{ip}
use Rattle.serde_json.specs.View.{view}
use Rattle.table_members.specs.Places.{path_of}
use Rattle.table_members.specs.declared.place.Spot.TheVariants.{Top}
use Rattle.table_members.specs.declared.place.Key.TheVariants.{Ips}
use Rattle.mcu_tables.proofs.ips.each_ip.Given as goal

abbrev pub invariant-loop-value : goal.invariant-loop-value
invariant-loop-value l = entries_after ip (path_of (Top Ips)) l.found.items (map view (drop l.value-index l.values)) ≡ entries_after ip (path_of (Top Ips)) [] (map view l.values)
