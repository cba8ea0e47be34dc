use Rattle.std.proofs.Common.{◌≡◌, ℕ, take}
use Rattle.std.specs.Ordering.{nat_cmp}
use Rattle.std.specs.BTreeMap.{get}
use Rattle.refutation.specs.Outcomes.{cause_at}
use Rattle.refutation.proofs.make.causes_of.Given as goal

abbrev pub invariant-loop-entry : goal.invariant-loop-entry
invariant-loop-entry l = (path : ℕ) → get nat_cmp l.causes path ≡ cause_at (take l.entry-index l.closed) path
