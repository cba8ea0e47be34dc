use Rattle.std.proofs.Common.{◌≡◌, drop}
use Rattle.std.specs.Prelude.{find}
use Rattle.res_model.specs.Power.{has_supply}
use Rattle.explain_text.proofs.power.range_at.Given as goal

abbrev pub invariant-loop-range : goal.invariant-loop-range
invariant-loop-range l = find (has_supply l.fn.vdd) l.range-items ≡ find (has_supply l.fn.vdd) (drop l.range-index l.range-items)
