use Rattle.box_split.proofs.LawLemmas.{single_lows}
use Rattle.box_split.proofs.laws.single_box_has_its_low.Goals as goal

pub returns : goal.returns
returns c = single_lows
