use Rattle.std.proofs.Common.{◌≡◌, ◌&&◌, false}
use Rattle.std.specs.Prelude.{not}
use Rattle.pin_match.specs.Hall.{any_below}
use Rattle.res_base.specs.VarSet.{in_set}
use Rattle.refute_check.specs.Counting.{is_of_class}
use Rattle.refute_check.proofs.halls.are_of_class.Given as goal

abbrev pub invariant-loop-v : goal.invariant-loop-v
invariant-loop-v l = any_below l.v (λ v. in_set l.vars v && not (is_of_class l.class l.first l.uses v)) ≡ false
