use Rattle.std.proofs.Common.{◌≡◌, drop, max}
use Rattle.explain_text.specs.Figures.{pclk1_most}
use Rattle.explain_text.proofs.power.pclk1_most.Given as goal

abbrev pub invariant-loop-step : goal.invariant-loop-step
invariant-loop-step l = max l.most (pclk1_most l.t (drop l.step-index l.steps)) ≡ pclk1_most l.t l.steps
