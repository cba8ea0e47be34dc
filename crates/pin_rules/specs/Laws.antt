-- What a signal can be, and what it pays, by whether it is a need.
use Rattle.std.specs.Prelude.{◌≡◌, ◌≢◌, ℕ, List, [], ◌∷◌, true, false, Option, Some}
use Rattle.choice_rank.specs.declared.variable.Costs.{Costs}
use Rattle.choice_rank.specs.declared.variable.Costs.TheVariants.{HomeFirst, AllZero, AllOne}
use Rattle.res_base.specs.Lists.{Each}
use Rattle.res_model.specs.Placed.{IsPlaced, rows_named}
use Rattle.res_model.specs.Values.{values_of, costs_of}
use Rattle.res_model.specs.declared.project.Signal.{Signal}
use Rattle.res_model.specs.declared.table.PinUse.{PinUse}
use Rattle.res_model.specs.declared.table.TableParts.{TableParts}

-- a need can be at each of its rows, in table order, and pays nothing
abbrev pub NeedsAreFree : Type 0
NeedsAreFree =
    (t : TableParts) (s : Signal) → IsPlaced t s → s.need ≡ true → (values_of t s ≡ rows_named t s.name) × (costs_of t s ≡ AllZero)

abbrev pub IsAt : Option ℕ → PinUse → Type 0
IsAt home u = home ≡ Some u.pin

abbrev pub IsFirstAt : Option ℕ → List PinUse → Type 0
IsFirstAt home [] = Unit {0}
IsFirstAt home (u ∷ us) = IsAt home u

-- leaving home is paid for: where the first value is free, it is at home; where none is, none is at home
pub record PaysToLeave (home : Option ℕ) (values : List PinUse) (costs : Costs) : Type 0 where
  pub never_free : costs ≢ AllZero
  pub first : costs ≡ HomeFirst → IsFirstAt home values
  pub elsewhere : costs ≡ AllOne → Each (λ (u : PinUse). ¬ IsAt home u) values

abbrev pub OthersPay : Type 0
OthersPay = (t : TableParts) (s : Signal) → IsPlaced t s → s.need ≡ false → PaysToLeave s.home (values_of t s) (costs_of t s)
