-- What holds of each row of a signal, and of its own use of its home, holds of each of its values.
use Rattle.std.proofs.Common.{ℕ, ◌++◌, List, [], ◌∷◌, length, Bool, true, false, not, cond}
use Rattle.std.specs.Prelude.{codes, filter, find, Option, Some, None, IfSome, MatchOption}
use Rattle.std.specs.Str.{bytes_eq}
use Rattle.res_base.proofs.ListLemmas.{each_map}
use Rattle.res_base.specs.Lists.{Each}
use Rattle.res_model.specs.Signals.{signal_named, rows_of, role_mode, own_mode}
use Rattle.res_model.specs.Valid.{IsValid, IsModeOf, IsSignal}
use Rattle.res_model.specs.Values.{is_at, rows_at, rows_elsewhere, use_at, placed, values_from, values_of, pin_values}
use Rattle.res_model.specs.declared.project.Signal.{Signal}
use Rattle.res_model.specs.declared.table.Mode.{Mode}
use Rattle.res_model.specs.declared.table.Mode.TheVariants as mode
use Rattle.res_model.specs.declared.table.PinUse.{PinUse}
use Rattle.res_model.specs.declared.table.Role.{Role}
use Rattle.res_model.specs.declared.table.Role.TheVariants as role
use Rattle.res_model.specs.declared.table.TableParts.{TableParts}
use Rattle.res_model.specs.declared.table.TableSignal.{TableSignal}
use Rattle.problem.specs.Problem.{IsFunction, HaveFunctions}

uses_filter : (P : PinUse → Type 0) (p : PinUse → Bool) (d : List PinUse) → Each P d → Each P (filter p d)
uses_filter P p [] h = tt
uses_filter P p (x ∷ xs) h = case (p x) (uses_filter P p xs h.1)
  where
    case : (b : Bool) → Each P (filter p xs) → Each P (cond b (x ∷ filter p xs) (filter p xs))
    case true rest = (h.0, rest)
    case false rest = rest

uses_append : (P : PinUse → Type 0) (xs ys : List PinUse) → Each P xs → Each P ys → Each P (xs ++ ys)
uses_append P [] ys h k = k
uses_append P (x ∷ xs) ys h k = (h.0, uses_append P xs ys h.1 k)

-- the home's rows first, and then, unless the signal stays, the others
pub rows_each : (P : PinUse → Type 0) (rows : List PinUse) (locked : Bool) (home : ℕ) → Each P rows → Each P (rows_at home rows ++ cond locked [] (rows_elsewhere home rows))
rows_each P rows true home h = uses_append P (rows_at home rows) [] (uses_filter P (is_at home) rows h) tt
rows_each P rows false home h = uses_append P (rows_at home rows) (rows_elsewhere home rows) (uses_filter P (is_at home) rows h) (uses_filter P (λ u. not (is_at home u)) rows h)

placed_each : (P : PinUse → Type 0) (rows : List PinUse) (own : Option Mode) (locked : Bool) (home : ℕ) → Each P rows → Each P (use_at home own) → Each P (placed rows own locked home)
placed_each P [] own locked home h k = k
placed_each P (row ∷ rows) own locked home h k = rows_each P (row ∷ rows) locked home h

pub values_each : (P : PinUse → Type 0) (rows : List PinUse) (own : Option Mode) (locked : Bool) (home : Option ℕ) → Each P rows → IfSome home (λ h. Each P (use_at h own)) → Each P (values_from rows own locked home)
values_each P rows own locked None h k = h
values_each P rows own locked (Some home) h k = placed_each P rows own locked home h k

pub each_find : (P : TableSignal → Type 0) (p : TableSignal → Bool) (xs : List TableSignal) → Each P xs → MatchOption (find p xs) (Unit {0}) P
each_find P p [] h = tt
each_find P p (x ∷ xs) h = case (p x) (each_find P p xs h.1)
  where
    case : (b : Bool) → MatchOption (find p xs) (Unit {0}) P → MatchOption (cond b (Some x) (find p xs)) (Unit {0}) P
    case true rest = h.0
    case false rest = rest

-- ---- functions

row_function : (r : Role) (m : Mode) → IsModeOf r m → IsFunction m
row_function role.Alt (mode.Alt n) h = h
row_function role.Alt mode.Input h = absurd h
row_function role.Alt mode.Output h = absurd h
row_function role.Alt mode.Analog h = absurd h
row_function role.Alt mode.Exti h = absurd h
row_function role.Alt mode.Osc h = absurd h
row_function role.Alt mode.Held h = absurd h
row_function role.Input m h = absurd h
row_function role.Output m h = absurd h
row_function role.Analog m h = rw h tt
row_function role.Exti m h = absurd h
row_function role.Osc m h = rw h tt

rows_function : (n : ℕ) (o : Option TableSignal) → MatchOption o (Unit {0}) (IsSignal n) → HaveFunctions (rows_of o)
rows_function n None h = tt
rows_function n (Some s) h = each_map (λ (u : PinUse). IsModeOf s.role u.mode) (λ (u : PinUse). IsFunction u.mode) s.at (λ u k. row_function s.role u.mode k) h.rows.modes

role_function : (r : Role) (home : ℕ) → HaveFunctions (use_at home (role_mode r))
role_function role.Alt home = tt
role_function role.Input home = (tt, tt)
role_function role.Output home = (tt, tt)
role_function role.Analog home = (tt, tt)
role_function role.Exti home = (tt, tt)
role_function role.Osc home = (tt, tt)

held_function : (b : Bool) (home : ℕ) → HaveFunctions (use_at home (cond b (Some mode.Held) None))
held_function true home = (tt, tt)
held_function false home = tt

own_function : (name : List ℕ) (o : Option TableSignal) (home : ℕ) → HaveFunctions (use_at home (own_mode name o))
own_function name (Some s) home = role_function s.role home
own_function name None home = held_function (bytes_eq name (codes "-")) home

own_at : (name : List ℕ) (o : Option TableSignal) (home : Option ℕ) → IfSome home (λ h. HaveFunctions (use_at h (own_mode name o)))
own_at name o None = tt
own_at name o (Some home) = own_function name o home

signal_functions : (t : TableParts) (s : Signal) → IsValid t → HaveFunctions (values_of t s)
unfolding signal_named values_of
signal_functions t s valid =
    let found : Option TableSignal = find (λ x. bytes_eq x.name s.name) t.signals in
    values_each (λ u. IsFunction u.mode) (rows_of found) (own_mode s.name found) s.locked s.home
    (rows_function (length t.pins) found (each_find (IsSignal (length t.pins)) (λ x. bytes_eq x.name s.name) t.signals valid.signals.each)) (own_at s.name found s.home)

pub all_functions : (t : TableParts) (ss : List Signal) → IsValid t → Each HaveFunctions (pin_values t ss)
all_functions t [] valid = tt
all_functions t (s ∷ ss) valid = (signal_functions t s valid, all_functions t ss valid)
