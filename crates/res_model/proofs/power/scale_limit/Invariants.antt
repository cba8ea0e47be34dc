use Rattle.std.proofs.Common.{◌≡◌, drop}
use Rattle.std.specs.Prelude.{find, ◌==◌}
use Rattle.res_model.specs.declared.table.Scale.{Scale}
use Rattle.res_model.proofs.power.scale_limit.Given as goal

abbrev pub invariant-loop-scale : goal.invariant-loop-scale
invariant-loop-scale l = find (λ (s : Scale). s.vos == l.fn.step) l.scale-items ≡ find (λ (s : Scale). s.vos == l.fn.step) (drop l.scale-index l.scale-items)
