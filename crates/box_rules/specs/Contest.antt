-- Signals in a box that compete for resources: pins, or the lines of external interrupts.
use Rattle.std.specs.Prelude.{ℕ, zero, suc, ◌+◌, ◌&&◌, ◌==◌, List, [], ◌∷◌, Bool, true, false, not, nat_lt, length, if◌then◌else◌, Option, option_map, slice_range}
use Rattle.std.specs.List.{list_all, list_any}
use Rattle.res_base.specs.declared.var_set.VarSet.{VarSet}
use Rattle.res_base.specs.Sums.{sum_below, one_if}
use Rattle.res_base.specs.VarSet.{in_set}
use Rattle.box_split.specs.Boxes.{Run}
use Rattle.pin_match.specs.Hall.{any_below}
use Rattle.pin_match.specs.Largest.{hall_of, set_where}
use Rattle.res_model.specs.declared.table.PinUse.{PinUse}
use Rattle.res_model.specs.declared.table.TableParts.{TableParts}
use Rattle.res_model.specs.Placement.{is_exti, number_of}
use Rattle.search_api.specs.declared.verdict.Class.{Class}
use Rattle.search_api.specs.declared.verdict.Class.TheVariants.{Pins, Exti}

-- the resource of a use: its pin, or the pin's number, which is the line of its interrupt (RM0090, EXTI)
abbrev pub resource_of : TableParts → Class → PinUse → ℕ
resource_of t Pins u = u.pin
resource_of t Exti u = number_of t u.pin

-- which signals compete: all for pins, and for lines those whose values are interrupts
abbrev pub competes : Class → List PinUse → Bool
competes Pins us = true
competes Exti us = list_all (λ (u : PinUse). is_exti u.mode) us

-- the values at the positions of a run
abbrev pub uses_in : List PinUse → Run → List PinUse
uses_in us r = slice_range us r.low (r.high + 1)

-- a variable that competes, with its uses in the box
pub record Contestant : Type 0 where
  pub variable : ℕ
  pub uses : List PinUse

abbrev pub joined : Bool → Contestant → List Contestant → List Contestant
joined true c cs = c ∷ cs
joined false c cs = cs

-- those that compete among variables from a first number on
abbrev pub contestants : Class → ℕ → List (List PinUse) → List Run → List Contestant
contestants class v [] rs = []
contestants class v (us ∷ uss) [] = []
contestants class v (us ∷ uss) (r ∷ rs) = joined (competes class us) record { variable = v; uses = uses_in us r } (contestants class (v + 1) uss rs)

-- the variable of a place
abbrev pub variable_at : List Contestant → ℕ → ℕ
variable_at [] i = 0
variable_at (c ∷ cs) zero = c.variable
variable_at (c ∷ cs) (suc i) = variable_at cs i

-- whether the one at a place has a use of the resource
abbrev pub wants : TableParts → Class → List Contestant → ℕ → ℕ → Bool
wants t class [] i = λ r. false
wants t class (c ∷ cs) zero = λ r. list_any (λ (u : PinUse). resource_of t class u == r) c.uses
wants t class (c ∷ cs) (suc i) = wants t class cs i

-- the variables of these places
unfoldable pub named : List Contestant → VarSet → VarSet
named cs s = set_where (λ v. any_below (length cs) (λ i. in_set s i && (variable_at cs i == v)))

-- the variables that some largest assignment of resources leaves out, where not all can have one
unfoldable pub hall_in : TableParts → Class → List Contestant → Option VarSet
hall_in t class cs = option_map (named cs) (hall_of (length cs) 192 (wants t class cs))

-- the variable is of one of them
abbrev pub is_contestant : List Contestant → ℕ → Bool
is_contestant cs v = any_below (length cs) (λ i. variable_at cs i == v)

-- how many resources the variables have together
abbrev pub resources_of : TableParts → Class → List Contestant → VarSet → ℕ
resources_of t class cs vars = sum_below 192 (λ r. one_if (any_below (length cs) (λ i. in_set vars (variable_at cs i) && wants t class cs i r)))

-- the variables all compete, and are more than the resources that they have together
unfoldable pub hall_refutes : TableParts → Class → List Contestant → VarSet → Bool
hall_refutes t class cs vars =
    not (any_below 192 (λ v. in_set vars v && not (is_contestant cs v)))
    && nat_lt (resources_of t class cs vars) (sum_below 192 (λ v. one_if (in_set vars v)))

-- the places among the signals, from a first one on, of those that compete
abbrev pub members_of : Class → ℕ → List (List PinUse) → List ℕ
members_of class s [] = []
members_of class s (us ∷ uss) = if competes class us then s ∷ members_of class (s + 1) uss else members_of class (s + 1) uss
