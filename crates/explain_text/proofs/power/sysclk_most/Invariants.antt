use Rattle.std.proofs.Common.{◌≡◌, drop, max}
use Rattle.explain_text.specs.Figures.{sysclk_most}
use Rattle.explain_text.proofs.power.sysclk_most.Given as goal

abbrev pub invariant-loop-step : goal.invariant-loop-step
invariant-loop-step l = max l.most (sysclk_most l.t (drop l.step-index l.steps)) ≡ sysclk_most l.t l.steps
