use Rattle.std.proofs.Common.{◌≡◌, ◌<◌, ℕ, get_or, length}
use Rattle.res_base.specs.VarSet.{in_set}
use Rattle.box_split.specs.BoxIn.{runs_in}
use Rattle.pin_match.proofs.SetLemmas.{nothing}
use Rattle.dma_rules.specs.Judged.{can_have}
use Rattle.dma_rules.proofs.judge.fill.Given as goal

abbrev pub invariant-loop-place : goal.invariant-loop-place
invariant-loop-place l = (k : ℕ) → k < l.place → (s : ℕ) → in_set (get_or l.sets k nothing) s ≡ can_have l.requests (runs_in (length l.requests) l.lo l.hi) k s
