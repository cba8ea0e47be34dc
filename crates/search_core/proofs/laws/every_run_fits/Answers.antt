use Rattle.search_core.specs.Events.{opening}
use Rattle.search_core.proofs.RunLemmas.{opening_fits, run_fits}
use Rattle.search_core.proofs.laws.every_run_fits.Goals as goal

pub returns : goal.returns
returns c m workers events end lawful some runs = run_fits m lawful events (opening workers) end runs (opening_fits m workers some)
