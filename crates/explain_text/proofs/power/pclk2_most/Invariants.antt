use Rattle.std.proofs.Common.{◌≡◌, drop, max}
use Rattle.explain_text.specs.Figures.{pclk2_most}
use Rattle.explain_text.proofs.power.pclk2_most.Given as goal

abbrev pub invariant-loop-step : goal.invariant-loop-step
invariant-loop-step l = max l.most (pclk2_most l.t (drop l.step-index l.steps)) ≡ pclk2_most l.t l.steps
