use Rattle.box_split.proofs.PathLemmas.{lower_path, upper_path}
use Rattle.box_split.proofs.laws.halves_are_paths.Goals as goal

pub returns : goal.returns
returns c = record { lower = lower_path; upper = upper_path }
