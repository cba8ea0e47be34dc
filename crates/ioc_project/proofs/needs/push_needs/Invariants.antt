use Rattle.std.proofs.Common.{◌≡◌, ◌+◌, drop}
use Rattle.ioc_project.specs.Project.{needs_from}
use Rattle.res_model.specs.Steps.{with_prefix}
use Rattle.ioc_project.proofs.needs.push_needs.Given as goal

abbrev pub invariant-loop-at : goal.invariant-loop-at
invariant-loop-at l = with_prefix l.signals.items (needs_from l.t (l.at + 1) (drop l.at l.names)) ≡ with_prefix l.fn.signals.items (needs_from l.t 1 l.names)
