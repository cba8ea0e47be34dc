use Rattle.std.proofs.Common.{◌≡◌, ℕ, ◌<◌, take}
use Rattle.std.specs.Prelude.{◌==◌, ◌||◌}
use Rattle.std.specs.List.{list_any}
use Rattle.res_base.specs.VarSet.{in_set}
use Rattle.box_rules.specs.Contest.{resource_of}
use Rattle.res_model.specs.declared.table.PinUse.{PinUse}
use Rattle.explain_text.proofs.rivals.put_resources.Given as goal

abbrev pub invariant-loop-at : goal.invariant-loop-at
invariant-loop-at l = (r : ℕ) → r < 192 → in_set l.found r ≡ (in_set l.initial.found r || list_any (λ (u : PinUse). resource_of l.t l.class u == r) (take l.at-index l.values))
