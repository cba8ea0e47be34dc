use Rattle.std.proofs.Common.{◌≡◌, ◌&&◌, false, length}
use Rattle.std.specs.Prelude.{nat_lt, not}
use Rattle.pin_match.specs.Hall.{any_below}
use Rattle.res_base.specs.VarSet.{in_set}
use Rattle.dma_rules.proofs.checker.are_requests.Given as goal

abbrev pub invariant-loop-v : goal.invariant-loop-v
invariant-loop-v l = any_below l.v (λ v. in_set l.vars v && not (nat_lt v (length l.requests))) ≡ false
