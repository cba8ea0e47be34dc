-- Internal: what a set of variables has in a box, signal by signal.
use Rattle.std.specs.Prelude.{ℕ, ◌+◌, ◌==◌, ◌&&◌, ◌||◌, List, [], ◌∷◌, Bool, false, not}
use Rattle.std.specs.List.{list_any}
use Rattle.res_base.specs.declared.var_set.VarSet.{VarSet}
use Rattle.res_base.specs.VarSet.{in_set}
use Rattle.box_split.specs.Boxes.{Run}
use Rattle.pin_match.specs.Hall.{any_below}
use Rattle.res_model.specs.declared.table.PinUse.{PinUse}
use Rattle.res_model.specs.declared.table.TableParts.{TableParts}
use Rattle.search_api.specs.declared.verdict.Class.{Class}
use Rattle.box_rules.specs.Contest.{competes, resource_of, uses_in}

-- the variable is that of a signal of the class; the signals are variables from a first one on
abbrev pub is_of_class : Class → ℕ → List (List PinUse) → ℕ → Bool
is_of_class class first [] v = false
is_of_class class first (us ∷ uss) v = (competes class us && (first == v)) || is_of_class class (first + 1) uss v

-- all members are
unfoldable pub are_of_class : Class → ℕ → List (List PinUse) → VarSet → Bool
are_of_class class first uses vars = not (any_below 192 (λ v. in_set vars v && not (is_of_class class first uses v)))

-- the resource is that of a use
abbrev pub has_resource : TableParts → Class → List PinUse → ℕ → Bool
has_resource t class us r = list_any (λ (u : PinUse). resource_of t class u == r) us

-- the resource is that of a use, in the box, of a signal of the class whose variable is in the set
abbrev pub is_used : TableParts → Class → VarSet → ℕ → List (List PinUse) → List Run → ℕ → Bool
is_used t class vars first [] rs r = false
is_used t class vars first (us ∷ uss) [] r = false
is_used t class vars first (us ∷ uss) (run ∷ rs) r = ((competes class us && in_set vars first) && has_resource t class (uses_in us run) r) || is_used t class vars (first + 1) uss rs r
