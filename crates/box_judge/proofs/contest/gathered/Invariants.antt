use Rattle.std.proofs.Common.{◌≡◌, ◌+◌, ◌==◌, ◌&&◌, ℕ, get_or}
use Rattle.res_base.specs.VarSet.{in_set}
use Rattle.pin_match.specs.Hall.{any_below}
use Rattle.box_judge.proofs.contest.gathered.Given as goal

abbrev pub invariant-loop-i : goal.invariant-loop-i
invariant-loop-i l = (v : ℕ) → in_set l.found v ≡ any_below l.i (λ i. in_set l.s i && (l.first + get_or l.members i 0 == v))
