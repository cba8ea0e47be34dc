use Rattle.search_core.specs.Events.{opening}
use Rattle.search_core.proofs.RunLemmas.{cut_kept, opening_fits, run_fits}
use Rattle.search_core.proofs.laws.each_cut_uses_a_kept_rank.Goals as goal

pub returns : goal.returns
returns c m workers events before new w lawful some runs cuts = cut_kept m before new w (run_fits m lawful events (opening workers) before runs (opening_fits m workers some)) cuts
