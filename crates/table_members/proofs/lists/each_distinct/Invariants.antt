use Rattle.std.proofs.Common.{◌≡◌, [], map, drop}
use Rattle.table_members.specs.Forms.{entries_after, distinct_text}
use Rattle.serde_json.specs.View.{view}
use Rattle.table_members.specs.Places.{path_of}
use Rattle.table_members.proofs.lists.each_distinct.Given as goal

abbrev pub invariant-loop-value : goal.invariant-loop-value
invariant-loop-value l = entries_after distinct_text (path_of l.at) l.found.items (map view (drop l.value-index l.values)) ≡ entries_after distinct_text (path_of l.at) [] (map view l.values)
