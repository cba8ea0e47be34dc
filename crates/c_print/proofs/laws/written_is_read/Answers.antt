use Rattle.c_print.proofs.ReadLemmas.{read_again, read_alone}
use Rattle.c_print.proofs.laws.written_is_read.Goals as goal

pub returns : goal.returns
returns c = record { read = read_again; alone = read_alone }
