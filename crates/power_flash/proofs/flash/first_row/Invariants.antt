use Rattle.std.proofs.Common.{◌≡◌, drop}
use Rattle.std.specs.List.{position_from}
use Rattle.res_model.specs.Power.{is_covered_by}
use Rattle.power_flash.proofs.flash.first_row.Given as goal

abbrev pub invariant-loop-w : goal.invariant-loop-w
invariant-loop-w l = position_from (is_covered_by l.hclk) 0 l.rows ≡ position_from (is_covered_by l.hclk) l.w (drop l.w l.rows)
