use Rattle.std.proofs.Common.{ap}
use Rattle.res_model.specs.Clock.{facts_of}
use Rattle.res_model.specs.declared.clock.Facts.{Facts}
use Rattle.home_target.proofs.target.home_target.Goals as goal

pub returns-clause-hse : goal.returns-clause-hse
unfolding facts_of
returns-clause-hse c = ap (λ (f : Facts). f.hse_hz) c.facts.ensures.facts
