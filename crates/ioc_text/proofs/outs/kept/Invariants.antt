use Rattle.std.proofs.Common.{◌≡◌, ◌++◌, drop, map}
use Rattle.ioc_text.specs.Outs.{kept}
use Rattle.ioc_text.proofs.outs.kept.Given as goal

abbrev pub invariant-loop-line : goal.invariant-loop-line
invariant-loop-line l = map (λ line. line.now) l.out.items ++ kept l.outs (drop l.line-index l.lines) ≡ kept l.outs l.lines
