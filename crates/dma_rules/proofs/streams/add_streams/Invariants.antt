use Rattle.std.proofs.Common.{◌≡◌, ◌||◌, ℕ, take}
use Rattle.res_base.specs.VarSet.{in_set}
use Rattle.dma_rules.specs.Judged.{has_stream}
use Rattle.dma_rules.proofs.streams.add_streams.Given as goal

abbrev pub invariant-loop-r : goal.invariant-loop-r
invariant-loop-r l = (s : ℕ) → in_set l.found s ≡ (in_set l.initial.found s || has_stream (take l.r-index l.rows) s)
