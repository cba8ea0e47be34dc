use Rattle.std.proofs.Common.{◌≡◌, ◌+◌, ◌≤◌, ◌^◌, ◌++◌, drop}
use Rattle.ioc_write.specs.Survey.{above}
use Rattle.ioc_write.specs.WriteBack.{needs_lines, needs_of}
use Rattle.ioc_write.proofs.append.put_needs.Given as goal

abbrev pub invariant-loop-k : goal.invariant-loop-k
invariant-loop-k l = record {
  same : l.out.items ++ needs_lines l.t (above l.greatest) (drop l.k l.signals) (drop l.k l.uses) ≡ l.fn.out.items ++ needs_lines l.t (above l.fn.last) l.signals l.uses;
  room : above l.greatest + needs_of (drop l.k l.signals) ≤ 2 ^ 64;
}
