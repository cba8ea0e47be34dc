use Rattle.refutation.proofs.FromLemmas.{covered, sound, owned, bound_fits}
use Rattle.refutation.proofs.laws.accounted_outcome_serves.Goals as goal

pub returns : goal.returns
returns c = record { covered = covered; sound = sound; owned = owned; bound = bound_fits }
