use Rattle.std.proofs.Common.{◌≡◌, ◌||◌, ℕ, take}
use Rattle.res_base.specs.VarSet.{in_set}
use Rattle.refute_check.specs.Counting.{has_resource}
use Rattle.refute_check.proofs.halls.add_resources.Given as goal

abbrev pub invariant-loop-u : goal.invariant-loop-u
invariant-loop-u l = (r : ℕ) → in_set l.found r ≡ (in_set l.initial.found r || has_resource l.t l.class (take l.u-index l.us) r)
