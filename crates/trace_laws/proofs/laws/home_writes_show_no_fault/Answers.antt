use Rattle.trace_laws.proofs.HomeLaws.{clean_at_home}
use Rattle.trace_laws.proofs.laws.home_writes_show_no_fault.Goals as goal

pub returns : goal.returns
returns c t p opts at answers agree valid choice met homes = clean_at_home t p opts at answers agree valid choice met homes
