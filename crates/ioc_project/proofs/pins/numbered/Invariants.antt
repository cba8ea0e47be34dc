use Rattle.std.proofs.Common.{◌≡◌, [], drop, map}
use Rattle.ioc_project.specs.Project.{numbered}
use Rattle.ioc_project.specs.Views.{seen}
use Rattle.ioc_project.proofs.pins.numbered.Given as goal

abbrev pub invariant-loop-line : goal.invariant-loop-line
invariant-loop-line l = numbered (seen l.placed.entries) (map (λ line. line.now) (drop l.line-index l.lines)) ≡ numbered [] (map (λ line. line.now) l.lines)
