use Rattle.std.proofs.Common.{◌∙◌, ap}
use Rattle.answers.specs.Said.{answered}
use Rattle.answers.specs.declared.answer.Status.TheVariants.{Done}
use Rattle.res_base.specs.Fraction.{Fraction}
use Rattle.i2s_pll.specs.Due as due
use Rattle.i2s_pll.specs.Texts.{i2s_text}
use Rattle.i2s_pll.proofs.answer.found.Goals as goal

pub i2s_text-requires-clause-choice : goal.i2s_text-requires-clause-choice
i2s_text-requires-clause-choice c = c.writes_are_sound.ensures.fits c.args.f.now c.args.home.now c.args.x c.requires.least.meets

pub returns : goal.returns
returns c =
    let f = c.args.f.now in
    let home = c.args.home.now in
    let x = c.args.x in
    due.found x c.requires.least (c.writes_are_sound.ensures.sound f home x c.requires.least.meets)
    (ap (answered Done) (c.of.ensures ∙ c.in_ok-text.ensures ∙ ap (λ (input : Fraction). i2s_text input c.args.rate x) c.input_of-i.ensures))
