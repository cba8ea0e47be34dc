use Rattle.std.proofs.Common.{List, [], map, sym, subst, ◌∙◌}
use Rattle.table_members.specs.Forms.{entries_after}
use Rattle.mcu_tables.specs.Table.{signal}
use Rattle.serde_json.specs.View.{view}
use Rattle.res_model.specs.declared.table.TableSignal.{TableSignal}
use Rattle.table_members.specs.Places.{path_of}
use Rattle.mcu_tables.specs.Seen.{AreSeen}
use Rattle.table_members.specs.declared.place.Spot.TheVariants.{Top}
use Rattle.table_members.specs.declared.place.Key.TheVariants.{Signals}
use Rattle.table_members.proofs.EntryLemmas.{entries_next}
use Rattle.mcu_tables.proofs.SeenLemmas.{seen_more}
use Rattle.mcu_tables.proofs.signals.each_signal.Goals as goal

pub loop-value-preserved : goal.loop-value-preserved
loop-value-preserved c = record {
  seen = subst (λ (ss : List TableSignal). AreSeen ss c.insert.new.self) (sym c.in_ok-push.ensures.items)
      (seen_more c.loop-value.found.items c.in_ok-signal.signal c.in_ok-from_str.field-0 c.loop-value.seen c.insert.new.self (c.in_ok-from_str.ensures.ok ∙ c.as_str.ensures) c.in_ok-insert.ensures.updates c.loop-value.invariant.seen);
  read = entries_next view (signal c.args.pins.now) (path_of (Top Signals)) c.loop-value.found.items c.as_slice.result.now c.push.new.self.items c.args.values.now c.loop-value.value-index c.value-item.result c.in_ok-signal.signal
      (entries_after (signal c.args.pins.now) (path_of (Top Signals)) [] (map view c.args.values.now)) c.loop-value-test.true c.value-item.is c.as_slice.ensures.value c.in_ok-signal.ensures c.in_ok-push.ensures.items c.loop-value.invariant.read;
}
