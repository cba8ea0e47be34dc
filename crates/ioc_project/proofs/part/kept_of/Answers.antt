use Rattle.ioc_project.specs.Project.{kept_of}
use Rattle.ioc_project.proofs.part.kept_of.Goals as goal

pub returns : goal.returns
unfolding kept_of
returns c = rw c.in_ok-pins_count.ensures c.truth_at.ensures
