-- Accesses that have lines.
use Rattle.std.proofs.Common.{List}
use Rattle.res_base.specs.Lists.{Each}
use Rattle.res_base.proofs.ListLemmas.{each_map}
use Rattle.reg_machine.specs.Words.{IsOp}
use Rattle.reg_machine.specs.declared.op.Op.{Op}
use Rattle.reg_machine.specs.declared.op.Op.TheVariants as op
use Rattle.c_print.specs.Reading.{FitsLine}

is_op : (o : Op) → FitsLine o → IsOp o
is_op (op.Write r value) h = h.0
is_op (op.Modify r clear set) h = h.0
is_op (op.Read r) h = h
is_op (op.Await r mask want polls name) h = h.0

pub are_ops : (os : List Op) → Each FitsLine os → Each IsOp os
are_ops os h = each_map FitsLine IsOp os is_op h
