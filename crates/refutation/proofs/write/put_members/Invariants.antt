use Rattle.std.proofs.Common.{◌≡◌, ◌++◌, ◌-◌, ◌≤◌}
use Rattle.res_base.specs.VarSet.{in_set}
use Rattle.refutation.specs.Forms.{below_in}
use Rattle.refutation.specs.Spelling.{spaced}
use Rattle.refutation.proofs.write.put_members.Given as goal

abbrev pub invariant-loop-v : goal.invariant-loop-v
invariant-loop-v l = record {
  within : l.from ≤ 192;
  put : l.out.items ≡ l.initial.out.items ++ spaced (below_in l.from (in_set l.vars));
}

abbrev pub decreases-loop-v : goal.decreases-loop-v
decreases-loop-v l = 192 - l.from
