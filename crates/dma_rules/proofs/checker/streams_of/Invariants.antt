use Rattle.std.proofs.Common.{◌≡◌, ◌&&◌, ℕ, length}
use Rattle.pin_match.specs.Hall.{any_below}
use Rattle.res_base.specs.VarSet.{in_set}
use Rattle.box_split.specs.BoxIn.{runs_in}
use Rattle.dma_rules.specs.Judged.{can_have}
use Rattle.dma_rules.proofs.checker.streams_of.Given as goal

abbrev pub invariant-loop-v : goal.invariant-loop-v
invariant-loop-v l = (s : ℕ) → in_set l.found s ≡ any_below l.v (λ v. in_set l.vars v && can_have l.requests (runs_in (length l.requests) l.lo l.hi) v s)
