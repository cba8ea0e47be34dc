use Rattle.std.proofs.Common.{◌≡◌, ◌++◌, drop, map}
use Rattle.ioc_project.specs.Project.{marks_of}
use Rattle.ioc_project.proofs.marks.marks_of.Given as goal

abbrev pub invariant-loop-line : goal.invariant-loop-line
invariant-loop-line l = l.marks.items ++ marks_of l.t l.ioc (map (λ line. line.now) (drop l.line-index l.pins)) ≡ marks_of l.t l.ioc (map (λ line. line.now) l.pins)
