use Rattle.std.proofs.Common.{◌≡◌, [], map, drop}
use Rattle.table_members.specs.Places.{path_of}
use Rattle.table_members.specs.Forms.{entries_after}
use Rattle.table_members.specs.declared.place.Key.TheVariants.{Dma}
use Rattle.table_members.specs.declared.place.Spot.TheVariants.{Top}
use Rattle.serde_json.specs.View.{view}
use Rattle.dma_table.specs.Reading.{request}
use Rattle.dma_table.proofs.entries.each_request.Given as goal

abbrev pub invariant-loop-value : goal.invariant-loop-value
invariant-loop-value l = entries_after request (path_of (Top Dma)) l.found.items (map view (drop l.value-index l.values)) ≡ entries_after request (path_of (Top Dma)) [] (map view l.values)
