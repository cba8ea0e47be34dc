use Rattle.pin_rules.proofs.FitLemmas.{fits_sentences, sentences_fit}
use Rattle.pin_rules.proofs.pairs.fits_means.Goals as goal

pub returns : goal.returns
returns c t us = (fits_sentences t us, sentences_fit t us)
