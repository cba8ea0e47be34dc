use Rattle.std.proofs.Common.{map}
use Rattle.serde_json.specs.View.{view}
use Rattle.table_members.proofs.JsonLemmas.{entries_seen}
use Rattle.table_members.proofs.json.entries_of.Goals as goal

pub returns : goal.returns
returns c = entries_seen (λ v. map view v.now.items) c.as_array.result (view c.args.value.now) c.as_array.ensures
