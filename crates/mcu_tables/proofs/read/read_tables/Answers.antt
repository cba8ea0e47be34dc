use Rattle.mcu_tables.proofs.TableValid.{tables_valid}
use Rattle.mcu_tables.proofs.read.read_tables.Goals as goal

pub of-requires : goal.of-requires
of-requires c = tables_valid c.args.text.now c.in-Ok.parts c.in-Ok.ensures
