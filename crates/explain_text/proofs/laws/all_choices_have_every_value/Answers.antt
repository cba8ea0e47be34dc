use Rattle.explain_text.proofs.WholeLemmas.{every_value}
use Rattle.explain_text.proofs.laws.all_choices_have_every_value.Goals as goal

pub returns : goal.returns
returns c = λ p w. every_value p w
