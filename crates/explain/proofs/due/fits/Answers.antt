use Rattle.std.proofs.Common.{◌∙◌, ap}
use Rattle.answers.specs.Said.{answered}
use Rattle.answers.specs.declared.answer.Status.TheVariants.{Done}
use Rattle.explain.specs.Due.{fits}
use Rattle.explain.proofs.due.fits.Goals as goal

pub returns : goal.returns
returns c = fits c.args.at.now c.requires.least (ap (answered Done) (c.of.ensures ∙ c.in_ok-text.ensures))
