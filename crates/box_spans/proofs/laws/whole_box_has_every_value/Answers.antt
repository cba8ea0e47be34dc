use Rattle.box_spans.proofs.EveryLemmas.{whole_box}
use Rattle.box_spans.proofs.laws.whole_box_has_every_value.Goals as goal

pub returns : goal.returns
returns c = λ values b w. whole_box values b w
