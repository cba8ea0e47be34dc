use Rattle.choice_setup.proofs.AllowedLemmas.{allowed, settable}
use Rattle.choice_setup.proofs.laws.choices_are_allowed.Goals as goal

pub returns-clause-settable : goal.returns-clause-settable
returns-clause-settable c p at agree valid whole choice = settable p at agree valid whole choice

pub returns-clause-allowed : goal.returns-clause-allowed
returns-clause-allowed c p at whole met = allowed p at whole met
