use Rattle.std.proofs.Common.{◌≡◌, ℕ, ◌<◌}
use Rattle.pin_match.specs.Hall.{any_below}
use Rattle.res_base.specs.VarSet.{in_set}
use Rattle.explain_text.specs.Reasons.{is_wanted_by}
use Rattle.explain_text.proofs.rivals.resources.Given as goal

abbrev pub invariant-loop-v : goal.invariant-loop-v
invariant-loop-v l = (r : ℕ) → r < 192 → in_set l.found r ≡ any_below l.v (is_wanted_by l.p l.class l.vars r)
