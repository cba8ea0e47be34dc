use Rattle.c_print.proofs.ReadLemmas.{one_reading}
use Rattle.c_print.proofs.laws.one_reading.Goals as goal

pub returns : goal.returns
returns c = one_reading
