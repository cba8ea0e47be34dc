use Rattle.std.proofs.Common.{◌≡◌, ◌+◌, ◌==◌, ◌&&◌, ℕ}
use Rattle.res_base.specs.VarSet.{in_set}
use Rattle.pin_match.specs.Hall.{any_below}
use Rattle.proof_shift.proofs.raise.gathered.Given as goal

abbrev pub invariant-loop-u : goal.invariant-loop-u
invariant-loop-u l = (v : ℕ) → in_set l.found v ≡ any_below l.u (λ u. in_set l.vars u && (u + 10 == v))
