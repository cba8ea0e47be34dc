use Rattle.search_core.proofs.TurnLemmas.{run_ordered, stolen_behind}
use Rattle.search_core.proofs.laws.thief_takes_the_last_box.Goals as goal

pub returns : goal.returns
returns c m workers events core new w from thief owner path left lawful runs steals at has own there = stolen_behind m core new w from thief owner path left (run_ordered m lawful workers events core runs) steals at has own there
