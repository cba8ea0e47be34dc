use Rattle.box_split.proofs.LawLemmas.{covers_none}
use Rattle.box_split.proofs.laws.no_path_covers_none.Goals as goal

pub returns : goal.returns
returns c = covers_none
