-- The modes of the homes, a signal at a time.
use Rattle.std.proofs.Common.{◌≡◌, ℕ, zero, suc, ◌+◌, ◌*◌, ◌<◌, ◌≤◌, ◌==◌, List, [], ◌∷◌, length, drop, Bool, true, false, cond, eqb, Option, Some, None, refl, sym, subst, ap, ◌∙◌, arith}
use Rattle.std.proofs.Math.Seq.{drop-length}
use Rattle.std.proofs.lemmas.Bool.Decides.{nat_tests}
use Rattle.std.specs.Prelude.{IfSome, IsSomeAnd, option_and_then, option_map, slice_get}
use Rattle.std.specs.Option.{option_map_or}
use Rattle.res_base.specs.Lists.{Each}
use Rattle.res_model.specs.Placed.{IsPlaced}
use Rattle.res_model.specs.Values.{values_of}
use Rattle.res_model.specs.declared.project.Signal.{Signal}
use Rattle.res_model.specs.declared.table.Mode.{Mode}
use Rattle.res_model.specs.declared.table.Pin.{Pin}
use Rattle.res_model.specs.declared.table.PinUse.{PinUse}
use Rattle.res_model.specs.declared.table.TableParts.{TableParts}
use Rattle.home_target.specs.Homes.{at_home, home_modes, home_use, no_modes, with_use}

pub place_is : (o : Option Pin) (spot : ℕ × ℕ) → option_map (λ (p : Pin). (p.port, p.number)) o ≡ Some spot → option_map_or (λ (p : Pin). p.port * 16 + p.number) o 0 ≡ spot.0 * 16 + spot.1
place_is None spot e = absurd cc
place_is (Some p) spot e = let same : (p.port, p.number) ≡ spot = cc in ap (λ (q : ℕ × ℕ). q.0 * 16 + q.1) same

-- what is at the home is of its pin
home_pin : (home : ℕ) (us : List PinUse) → IfSome (at_home home us) (λ (u : PinUse). u.pin ≡ home)
home_pin home [] = tt
home_pin home (u ∷ us) = case (u.pin == home) refl
  where
    case : (b : Bool) → (u.pin == home) ≡ b → IfSome (cond b (Some u) None) (λ (w : PinUse). w.pin ≡ home)
    case true q = grind (arith, nat_tests, q)
    case false q = tt

there : (n home : ℕ) (found : Option PinUse) → home < n → IfSome found (λ (u : PinUse). u.pin ≡ home) → IfSome found (λ (u : PinUse). u.pin < n)
there n home None l h = tt
there n home (Some u) l h = omega (arith, l, h)

by_home : (n : ℕ) (home : Option ℕ) (us : List PinUse) → IfSome home (λ h. h < n) → IfSome (option_and_then (λ h. at_home h us) home) (λ (u : PinUse). u.pin < n)
by_home n None us l = tt
by_home n (Some home) us l = there n home (at_home home us) l (home_pin home us)

some_if : (n : ℕ) (home : Option ℕ) → IsSomeAnd home (λ h. h < n) → IfSome home (λ h. h < n)
some_if n None h = tt
some_if n (Some home) h = h

-- the home of a signal that is placed is a pin of the table
home_there : (t : TableParts) (s : Signal) (need : Bool) → s.need ≡ need → IsPlaced t s → IfSome s.home (λ h. h < length t.pins)
home_there t s true e placed = subst (λ (o : Option ℕ). IfSome o (λ h. h < length t.pins)) (sym (placed.needed e).0) tt
home_there t s false e placed = some_if (length t.pins) s.home (placed.at_home e)

pub use_there : (t : TableParts) (s : Signal) (found : Option PinUse) → IsPlaced t s → found ≡ home_use t s → IfSome found (λ (u : PinUse). u.pin < length t.pins)
unfolding home_use
use_there t s found placed is =
    subst (λ (o : Option PinUse). IfSome o (λ (u : PinUse). u.pin < length t.pins)) (sym is)
    (by_home (length t.pins) s.home (values_of t s) (home_there t s s.need refl placed))

each_drop : {X : Type 0} (P : X → Type 0) (xs : List X) (k : ℕ) → Each P xs → Each P (drop k xs)
each_drop P xs zero h = h
each_drop P [] (suc k) h = tt
each_drop P (x ∷ xs) (suc k) h = each_drop P xs k h.1

pub placed_there : (t : TableParts) (ss : List Signal) (k : ℕ) (s : Signal) (rest : List Signal) → Each (IsPlaced t) ss → drop k ss ≡ s ∷ rest → IsPlaced t s
placed_there t ss k s rest h e = let here : Each (IsPlaced t) (s ∷ rest) = subst (Each (IsPlaced t)) e (each_drop (IsPlaced t) ss k h) in here.0

-- none is left
pub no_homes : (t : TableParts) (ss : List Signal) (k : ℕ) → k ≡ length ss → no_modes ≡ home_modes t (drop k ss)
no_homes t ss k e = ap (home_modes t) (sym (ap (λ (n : ℕ). drop n ss) e ∙ drop-length ss))

-- one more
pub one_home : (t : TableParts) (ss : List Signal) (k : ℕ) (s : Signal) (modes now : List (Option Mode)) (found : Option PinUse) → modes ≡ home_modes t (drop (k + 1) ss) → drop k ss ≡ s ∷ drop (k + 1) ss
    → found ≡ home_use t s → now ≡ with_use t found modes → now ≡ home_modes t (drop k ss)
one_home t ss k s modes now found h cut taken is =
    is ∙ ap (λ (o : Option PinUse). with_use t o modes) taken ∙ ap (with_use t (home_use t s)) h ∙ ap (home_modes t) (sym cut)
