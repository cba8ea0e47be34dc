use Rattle.std.proofs.Common.{◌≡◌, ◌+◌, ◌||◌, ℕ, drop, length}
use Rattle.res_base.specs.VarSet.{in_set}
use Rattle.box_split.specs.BoxIn.{runs_in}
use Rattle.refute_check.specs.Counting.{is_used}
use Rattle.refute_check.proofs.halls.resources_of.Given as goal

abbrev pub invariant-loop-s : goal.invariant-loop-s
invariant-loop-s l = (r : ℕ) → (in_set l.found r || is_used l.t l.class l.vars (l.first + l.s) (drop l.s l.uses) (drop l.s (runs_in (length l.uses) l.lo l.hi)) r) ≡ is_used l.t l.class l.vars l.first l.uses (runs_in (length l.uses) l.lo l.hi) r
