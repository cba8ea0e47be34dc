use Rattle.std.proofs.Common.{◌≡◌, drop, map}
use Rattle.std.specs.Prelude.{find}
use Rattle.explain.specs.Things.{lists_pin}
use Rattle.explain.proofs.lines.pin_line.Given as goal

abbrev pub invariant-loop-line : goal.invariant-loop-line
invariant-loop-line l = find (lists_pin l.pin) (map (λ line. line.now) l.lines) ≡ find (lists_pin l.pin) (map (λ line. line.now) (drop l.line-index l.lines))
