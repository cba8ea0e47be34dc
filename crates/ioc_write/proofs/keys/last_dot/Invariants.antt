use Rattle.std.proofs.Common.{◌≡◌, ◌<◌, drop, length}
use Rattle.std.specs.Prelude.{IfSome}
use Rattle.ioc_lines.specs.Lines.{last_dot}
use Rattle.ioc_write.proofs.Names.{later}
use Rattle.ioc_write.proofs.keys.last_dot.Given as goal

abbrev pub invariant-loop-at : goal.invariant-loop-at
invariant-loop-at l = record {
  same : later l.last l.at (last_dot (drop l.at l.bytes)) ≡ last_dot l.bytes;
  within : IfSome l.last (λ k. k < length l.bytes);
}
