use Rattle.std.proofs.Common.{◌≡◌, ℕ, ◌<◌, length, false, get_or}
use Rattle.res_model.specs.declared.table.PinUse.{PinUse}
use Rattle.res_model.specs.Placement.{clashes}
use Rattle.pin_rules.proofs.pairs.clash.Given as goal

abbrev pub invariant-loop-j : goal.invariant-loop-j
invariant-loop-j l = record {
  before : (a b : ℕ) (d : PinUse) → a < l.i → a < b → b < length l.uses → clashes l.t (get_or l.uses a d) (get_or l.uses b d) ≡ false;
  here : (b : ℕ) (d : PinUse) → l.i < b → b < l.j → clashes l.t (get_or l.uses l.i d) (get_or l.uses b d) ≡ false;
  same : l.t ≡ l.fn.t;
}

abbrev pub invariant-loop-i : goal.invariant-loop-i
invariant-loop-i l = record {
  before : (a b : ℕ) (d : PinUse) → a < l.i → a < b → b < length l.uses → clashes l.t (get_or l.uses a d) (get_or l.uses b d) ≡ false;
  same : l.t ≡ l.fn.t;
}
