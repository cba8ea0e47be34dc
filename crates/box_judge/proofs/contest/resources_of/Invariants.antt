use Rattle.std.proofs.Common.{◌≡◌, ◌==◌, ℕ, take}
use Rattle.std.specs.List.{list_any}
use Rattle.res_base.specs.VarSet.{in_set}
use Rattle.box_rules.specs.Contest.{resource_of}
use Rattle.box_judge.proofs.contest.resources_of.Given as goal

abbrev pub invariant-loop-u : goal.invariant-loop-u
invariant-loop-u l = (r : ℕ) → in_set l.found r ≡ list_any (λ u. resource_of l.t l.class u == r) (take l.u-index l.us)
