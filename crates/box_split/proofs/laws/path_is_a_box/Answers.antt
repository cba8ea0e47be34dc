use Rattle.box_split.proofs.PathLemmas.{path_box}
use Rattle.box_split.proofs.laws.path_is_a_box.Goals as goal

pub returns : goal.returns
returns c = path_box
