use Rattle.search_core.specs.Events.{opening}
use Rattle.search_core.proofs.RunLemmas.{opening_fits, run_fits, stands_once}
use Rattle.search_core.proofs.laws.each_box_is_claimed_once.Goals as goal

pub returns : goal.returns
returns c m workers events end lawful some runs = stands_once m lawful end (run_fits m lawful events (opening workers) end runs (opening_fits m workers some))
