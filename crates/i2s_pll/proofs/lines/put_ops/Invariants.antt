use Rattle.std.proofs.Common.{◌≡◌, ◌++◌, take}
use Rattle.std.specs.Prelude.{map}
use Rattle.std.specs.List.{concat}
use Rattle.i2s_pll.specs.Texts.{op_line}
use Rattle.i2s_pll.proofs.lines.put_ops.Given as goal

abbrev pub invariant-loop-op : goal.invariant-loop-op
invariant-loop-op l = l.out.items ≡ l.initial.out.items ++ concat (map op_line (take l.op-index l.ops))
