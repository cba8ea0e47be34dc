use Rattle.res_model.specs.Clock.{vco_in_of}
use Rattle.i2s_pll.proofs.RunLemmas.{fits_registers, sound}
use Rattle.i2s_pll.proofs.laws.writes_are_sound.Goals as goal

pub returns-clause-fits : goal.returns-clause-fits
returns-clause-fits c = λ f home x meets. fits_registers c.args.t.now f home x c.keeps_rules.ensures.clock.n meets

pub returns-clause-sound : goal.returns-clause-sound
returns-clause-sound c = λ f home x meets.
    sound c.args.t.now.limits (vco_in_of f home) x (fits_registers c.args.t.now f home x c.keeps_rules.ensures.clock.n meets) meets.bounds
