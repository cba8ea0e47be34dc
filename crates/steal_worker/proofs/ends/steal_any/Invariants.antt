use Rattle.std.proofs.Common.{◌≡◌, ℕ}
use Rattle.res_base.specs.Lists.{Each}
use Rattle.steal_worker.specs.Jobs.{stolen, IsThief, thief_deques}
use Rattle.steal_worker.proofs.ends.steal_any.Given as goal

abbrev pub invariant-loop-k : goal.invariant-loop-k
invariant-loop-k l = Each IsThief l.thieves × (thief_deques l.thieves ≡ thief_deques l.initial.thieves) × ((h : ℕ → ℕ) → stolen h l.thieves ≡ stolen h l.initial.thieves)
