use Rattle.box_split.proofs.LawLemmas.{path_positive, path_short}
use Rattle.box_split.proofs.laws.path_is_small.Goals as goal

pub returns : goal.returns
returns c = record { positive = path_positive; short = path_short }
