use Rattle.search_core.proofs.RunLemmas.{finished}
use Rattle.search_core.proofs.laws.finished_core_is_accounted.Goals as goal

pub returns : goal.returns
returns c m core fits done = finished m core fits done
