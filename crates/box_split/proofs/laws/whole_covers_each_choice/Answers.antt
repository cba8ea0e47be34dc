use Rattle.box_split.proofs.LawLemmas.{whole_covers}
use Rattle.box_split.proofs.laws.whole_covers_each_choice.Goals as goal

pub returns : goal.returns
returns c = whole_covers
