use Rattle.std.proofs.Common.{◌≡◌, drop, map}
use Rattle.ioc_project.specs.Project.{signals_after}
use Rattle.ioc_project.proofs.signals.push_signals.Given as goal

abbrev pub invariant-loop-line : goal.invariant-loop-line
invariant-loop-line l =
    signals_after l.t l.ioc l.kept l.signals.items (map (λ line. line.now) (drop l.line-index l.pins))
    ≡ signals_after l.t l.ioc l.kept l.fn.signals.items (map (λ line. line.now) l.pins)
