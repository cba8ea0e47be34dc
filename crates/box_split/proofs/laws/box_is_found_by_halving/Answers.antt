use Rattle.box_split.proofs.PathLemmas.{box_zero}
use Rattle.box_split.proofs.RunLemmas.{box_root, box_half}
use Rattle.box_split.proofs.laws.box_is_found_by_halving.Goals as goal

pub returns : goal.returns
returns c = record { zero = box_zero; root = box_root; halves = box_half }
