use Rattle.std.proofs.Common.{◌≡◌, ℕ, ◌-◌, ◌<◌, ◌≤◌, false}
use Rattle.res_base.specs.VarSet.{in_set}
use Rattle.res_base.proofs.var_set.VarSet.next_from.Given as goal

abbrev pub invariant-loop-at : goal.invariant-loop-at
invariant-loop-at l = (l.from ≤ l.at) × (l.at ≤ 192) × ((x : ℕ) → l.from ≤ x → x < l.at → in_set l.self x ≡ false)

abbrev pub decreases-loop-at : goal.decreases-loop-at
decreases-loop-at l = 192 - l.at
