use Rattle.std.proofs.Common.{◌≡◌, ◌∙◌, ◌-◌, length, take, drop, arith, length-drop, take-add}
use Rattle.std.proofs.lemmas.List.{take_all}
use Rattle.res_io.proofs.Steps.{appends_more}
use Rattle.res_io.proofs.sink.write_all.Goals as goal

pub loop-at-preserved : goal.loop-at-preserved
loop-at-preserved g c =
    let text = c.args.text.now in
    let at = c.loop-at.at in
    let piece : take (length text - at) (drop at text) ≡ drop at text = take_all (length text - at) (drop at text) (omega (arith, length-drop at text)) in
    record {
      within = omega (arith, c.in-Ok.ensures.some, length-drop at text);
      prefix = rw take-add (appends_more _ _ _ _ _ c.loop-at.invariant.prefix (rw piece at c.in-Ok.ensures.bytes));
      told = c.in-Ok.ensures.told ∙ c.loop-at.invariant.told;
      later = omega (arith, c.in-Ok.ensures.later);
    }
