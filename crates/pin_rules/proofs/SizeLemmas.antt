-- A signal has a value, and at most 16.
use Rattle.std.proofs.Common.{◌≡◌, ◌≢◌, ◌⊎◌, ℕ, zero, suc, ◌+◌, ◌<◌, ◌≤◌, List, [], ◌∷◌, ◌++◌, Bool, true, false, not, ◌||◌, cond, length, Option, Some, None, IsTrue, inl, inr, refl, sym, ap, subst, ◌∙◌, length-append, arith}
use Rattle.std.specs.Prelude.{filter, find, codes, is_some, IsSome, IsSomeAnd, IfSome, MatchOption}
use Rattle.std.specs.List.{list_any}
use Rattle.std.specs.Str.{bytes_eq}
use Rattle.std.proofs.lemmas.Slice.Eq.{bytes_eq-Decides}
use Rattle.std.proofs.lemmas.List.Filters.{length-filter_both}
use Rattle.res_base.specs.Lists.{Each}
use Rattle.res_model.specs.declared.project.Signal.{Signal}
use Rattle.res_model.specs.declared.table.Mode.{Mode}
use Rattle.res_model.specs.declared.table.PinUse.{PinUse}
use Rattle.res_model.specs.declared.table.Role.{Role}
use Rattle.res_model.specs.declared.table.Role.TheVariants.{Alt, Input, Output, Analog, Exti, Osc}
use Rattle.res_model.specs.declared.table.TableParts.{TableParts}
use Rattle.res_model.specs.declared.table.TableSignal.{TableSignal}
use Rattle.res_model.specs.Placed.{IsPlaced, HasRowAt, is_held, rows_named, rows_placed}
use Rattle.res_model.specs.Signals.{signal_named, rows_of, role_mode, own_mode}
use Rattle.res_model.specs.Valid.{IsValid, IsSignal, HasRowsDue}
use Rattle.res_model.specs.Values.{is_at, rows_at, rows_elsewhere, use_at, placed, values_from, values_of}
use Rattle.pin_rules.specs.Sizes.{IsSized}

-- what holds of each holds of the one that is found
each_find : {X : Type 0} (P : X → Type 0) (p : X → Bool) (xs : List X) → Each P xs → MatchOption (find p xs) (Unit {0}) P
each_find P p [] h = tt
each_find {X} P p (x ∷ xs) h = case (p x) (each_find P p xs h.1)
  where
    case : (b : Bool) → MatchOption (find p xs) (Unit {0}) P → MatchOption (cond b (Some x) (find p xs)) (Unit {0}) P
    case true rest = h.0
    case false rest = rest

-- the one that is found passes
found_passes : {X : Type 0} (p : X → Bool) (xs : List X) → MatchOption (find p xs) (Unit {0}) (λ x. p x ≡ true)
found_passes p [] = tt
found_passes {X} p (x ∷ xs) = case (p x) refl (found_passes p xs)
  where
    case : (b : Bool) → p x ≡ b → MatchOption (find p xs) (Unit {0}) (λ y. p y ≡ true) → MatchOption (cond b (Some x) (find p xs)) (Unit {0}) (λ y. p y ≡ true)
    case true e rest = e
    case false e rest = rest

-- what is asked of a signal, in words of the signal that its name finds
record IsPlaceable (t : TableParts) (s : Signal) : Type 0 where
  known : (s.name ≡ codes "-") ⊎ IsSome (signal_named t s.name)
  placed : MatchOption s.home (rows_of (signal_named t s.name) ≢ []) (λ home. Unit {0})
  stays : IsTrue s.locked → rows_of (signal_named t s.name) ≢ [] → IfSome s.home (λ home. IsTrue (list_any (is_at home) (rows_of (signal_named t s.name))))

record Fits16 (us : List PinUse) : Type 0 where
  some : 1 ≤ length us
  few : length us ≤ 16

-- some passes, so the filter keeps one
kept : (p : PinUse → Bool) (us : List PinUse) → list_any p us ≡ true → 1 ≤ length (filter p us)
kept p [] h = absurd cc
kept p (u ∷ us) h = case (p u) refl (kept p us)
  where
    case : (b : Bool) → p u ≡ b → (list_any p us ≡ true → 1 ≤ length (filter p us)) → 1 ≤ length (cond b (u ∷ filter p us) (filter p us))
    case true e rest = omega arith
    case false e rest = rest (rw e at h)

both_parts : (home : ℕ) (us : List PinUse) → length (rows_at home us ++ rows_elsewhere home us) ≡ length us
both_parts home us = length-append (rows_at home us) (rows_elsewhere home us) ∙ length-filter_both (is_at home) (λ u. not (is_at home u)) (λ x. refl) us

fewer : (home : ℕ) (us : List PinUse) → length (rows_at home us) ≤ length us
fewer home us = omega (arith, length-filter_both (is_at home) (λ u. not (is_at home u)) (λ x. refl) us)

no_more : (us : List PinUse) → us ++ [] ≡ us
no_more [] = refl
no_more (u ∷ us) = ap (λ (l : List PinUse). u ∷ l) (no_more us)

module _ (own : Option Mode) (locked : Bool) (home : ℕ) where
  placed_sized : (rows : List PinUse) → (rows ≡ [] → IsSome own) → length rows ≤ 16 → (IsTrue locked → rows ≢ [] → IsTrue (list_any (is_at home) rows)) → Fits16 (placed rows own locked home)
  placed_sized [] some few stays = single own (some refl)
    where
      single : (o : Option Mode) → IsSome o → Fits16 (use_at home o)
      single None h = absurd cc
      single (Some m) h = record { some = omega arith; few = omega arith }
  placed_sized (row ∷ rows) some few stays = rest locked (λ e. stays e (λ q. cc))
    where
      rest : (b : Bool) → (IsTrue b → IsTrue (list_any (is_at home) (row ∷ rows))) → Fits16 (rows_at home (row ∷ rows) ++ (cond b [] (rows_elsewhere home (row ∷ rows))))
      rest true h = record {
        some = rw (no_more (rows_at home (row ∷ rows))) (kept (is_at home) (row ∷ rows) (h refl));
        few = rw (no_more (rows_at home (row ∷ rows))) (omega (arith, fewer home (row ∷ rows), few));
      }
      rest false h = record {
        some = omega (arith, both_parts home (row ∷ rows));
        few = omega (arith, both_parts home (row ∷ rows), few);
      }

role_has_mode : (r : Role) (us : List PinUse) → HasRowsDue r us → us ≡ [] → IsSome (role_mode r)
role_has_mode Alt us h e = absurd (omega (arith, h, ap length e))
role_has_mode Input us h e = refl
role_has_mode Output us h e = refl
role_has_mode Analog us h e = refl
role_has_mode Exti us h e = refl
role_has_mode Osc us h e = refl

same_bytes : (a b : List ℕ) → a ≡ b → bytes_eq a b ≡ true
same_bytes a b e = (bytes_eq-Decides a b).1 e

-- the signal that was found, if any, has rows or a mode of its own
own_some : (pins : ℕ) (name : List ℕ) (s : Option TableSignal) → ((name ≡ codes "-") ⊎ IsSome s) → MatchOption s (Unit {0}) (IsSignal pins) → rows_of s ≡ [] → IsSome (own_mode name s)
own_some pins name (Some s) known valid e = role_has_mode s.role s.at valid.rows.due e
own_some pins name None known valid e = elim known [
  | inl d ↦ rw (same_bytes name (codes "-") d) refl
  | inr f ↦ absurd cc
]

rows_few : (pins : ℕ) (s : Option TableSignal) → MatchOption s (Unit {0}) (IsSignal pins) → length (rows_of s) ≤ 16
rows_few pins None valid = omega arith
rows_few pins (Some s) valid = valid.rows.few

some_rows : (us : List PinUse) → us ≢ [] → 1 ≤ length us
some_rows [] h = absurd (h refl)
some_rows (u ∷ us) h = omega arith

from_sized : (own : Option Mode) (locked : Bool) (rows : List PinUse) (home : Option ℕ) → (rows ≡ [] → IsSome own) → length rows ≤ 16
    → MatchOption home (rows ≢ []) (λ h. Unit {0}) → (IsTrue locked → rows ≢ [] → IfSome home (λ h. IsTrue (list_any (is_at h) rows))) → Fits16 (values_from rows own locked home)
from_sized own locked rows None some few need stays = record { some = some_rows rows need; few = few }
from_sized own locked rows (Some home) some few need stays = placed_sized own locked home rows some few stays

-- a table has no signal of the name of a held pin
not_held : (pins : ℕ) (name : List ℕ) (s : Option TableSignal) → MatchOption s (Unit {0}) (IsSignal pins) → MatchOption s (Unit {0}) (λ x. bytes_eq x.name name ≡ true) → bytes_eq name (codes "-") ≡ true → rows_of s ≡ []
not_held pins name None valid passes held = refl
not_held pins name (Some s) valid passes held =
    let same : s.name ≡ name = (bytes_eq-Decides s.name name).0 passes in
    let dash : name ≡ codes "-" = (bytes_eq-Decides name (codes "-")).0 held in
    absurd (valid.named (same ∙ dash))

held_or : (name : List ℕ) (s : Option TableSignal) → IsTrue (bytes_eq name (codes "-") || is_some s) → (name ≡ codes "-") ⊎ IsSome s
held_or name s h = case (bytes_eq name (codes "-")) refl h
  where
    case : (b : Bool) → bytes_eq name (codes "-") ≡ b → IsTrue (b || is_some s) → (name ≡ codes "-") ⊎ IsSome s
    case true e k = inl ((bytes_eq-Decides name (codes "-")).0 e)
    case false e k = inr k

need_rows : (s : Signal) (pins : ℕ) (rows : List PinUse) → (s.need ≡ true → (s.home ≡ None) × (0 < length rows)) → (s.need ≡ false → IsSomeAnd s.home (λ h. h < pins)) → MatchOption s.home (rows ≢ []) (λ home. Unit {0})
need_rows s pins rows needed at_home = case s.home s.need needed at_home
  where
    case : (home : Option ℕ) (need : Bool) → (need ≡ true → (home ≡ None) × (0 < length rows)) → (need ≡ false → IsSomeAnd home (λ h. h < pins)) → MatchOption home (rows ≢ []) (λ home. Unit {0})
    case (Some h) need n a = tt
    case None true n a = λ e. let l : length rows ≡ 0 = ap length e in absurd (omega (arith, (n refl).1))
    case None false n a = absurd (a refl)

no_length : (us : List PinUse) → length us ≡ 0 → us ≡ []
no_length [] e = refl
no_length (u ∷ us) e = absurd (omega arith)

stays_at : (name : List ℕ) (rows : List PinUse) (home : Option ℕ) → (bytes_eq name (codes "-") ≡ true → rows ≡ []) → IfSome home (HasRowAt (cond (bytes_eq name (codes "-")) [] rows)) → rows ≢ [] → IfSome home (λ h. IsTrue (list_any (is_at h) rows))
stays_at name rows None dash h some = tt
stays_at name rows (Some place) dash h some = case (bytes_eq name (codes "-")) refl h
  where
    case : (b : Bool) → bytes_eq name (codes "-") ≡ b → HasRowAt (cond b [] rows) place → IsTrue (list_any (is_at place) rows)
    case true e k = absurd (some (dash e))
    case false e k = elim k [
      | inl z ↦ absurd (some (no_length rows z))
      | inr y ↦ y
    ]

is_placeable : (t : TableParts) (s : Signal) → IsValid t → IsPlaced t s → IsPlaceable t s
unfolding signal_named is_held rows_named rows_placed
is_placeable t s valid p =
    let found : Option TableSignal = find (λ x. bytes_eq x.name s.name) t.signals in
    let is : MatchOption found (Unit {0}) (IsSignal (length t.pins)) = each_find (IsSignal (length t.pins)) (λ x. bytes_eq x.name s.name) t.signals valid.signals.each in
    let passes : MatchOption found (Unit {0}) (λ x. bytes_eq x.name s.name ≡ true) = found_passes (λ x. bytes_eq x.name s.name) t.signals in
    record {
      known = held_or s.name found p.named;
      placed = need_rows s (length t.pins) (rows_of found) p.needed p.at_home;
      stays = λ l. stays_at s.name (rows_of found) s.home (not_held (length t.pins) s.name found is passes) (p.stays l);
    }

pub sized : (t : TableParts) (s : Signal) → IsValid t → IsPlaced t s → IsSized t s
unfolding signal_named values_of
sized t s valid p =
    let placeable = is_placeable t s valid p in
    let found : Option TableSignal = find (λ x. bytes_eq x.name s.name) t.signals in
    let is : MatchOption found (Unit {0}) (IsSignal (length t.pins)) = each_find (IsSignal (length t.pins)) (λ x. bytes_eq x.name s.name) t.signals valid.signals.each in
    let fits : Fits16 (values_from (rows_of found) (own_mode s.name found) s.locked s.home) =
    from_sized (own_mode s.name found) s.locked (rows_of found) s.home (own_some (length t.pins) s.name found placeable.known is) (rows_few (length t.pins) found is) placeable.placed placeable.stays in
    record { some = fits.some; few = fits.few }
