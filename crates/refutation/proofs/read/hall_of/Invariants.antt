use Rattle.std.proofs.Common.{◌≡◌, ℕ, ◌+◌, ◌≤◌, ◌++◌, List, length}
use Rattle.std.specs.Option.{option_map, option_map_or, option_copied}
use Rattle.res_base.specs.VarSet.{in_set, NoneFrom}
use Rattle.refutation.specs.Forms.{below_in}
use Rattle.refutation.specs.Reading.{fields, more_fields, variables_from}
use Rattle.refutation.proofs.read.hall_of.Given as goal

abbrev pub invariant-loop-rest : goal.invariant-loop-rest
invariant-loop-rest l = record {
  same : variables_from 0 (fields l.fn.text) ≡ option_map (λ vs. below_in l.least (in_set l.vars) ++ vs) (variables_from l.least (more_fields (option_copied l.rest)));
  none : NoneFrom (in_set l.vars) l.least;
  small : l.least ≤ 170;
}

abbrev pub decreases-loop-rest : goal.decreases-loop-rest
decreases-loop-rest l = option_map_or (λ (t : List ℕ). length t + 1) (option_copied l.rest) 0
