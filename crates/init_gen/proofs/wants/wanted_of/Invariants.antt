use Rattle.std.proofs.Common.{◌≡◌, ℕ, ◌<◌, length, get_or, Option, None}
use Rattle.res_model.specs.declared.table.Mode.{Mode}
use Rattle.init_gen.specs.PinWrites.{wanted}
use Rattle.init_gen.proofs.wants.wanted_of.Given as goal

abbrev pub invariant-loop-place : goal.invariant-loop-place
invariant-loop-place l = record {
  size : length l.wants ≡ 144;
  before : (k : ℕ) → k < l.place → ◌≡◌ {A = Option Mode} (get_or l.wants k None) (wanted (get_or l.pins k None));
}
