-- A signal that stays at the pin of one of its values has that value alone.
use Rattle.std.proofs.Common.{◌≡◌, ◌≢◌, ℕ, zero, suc, ◌<◌, ◌==◌, ◌||◌, List, [], ◌∷◌, ◌++◌, Bool, true, false, not, cond, length, Option, Some, None, inl, inr, refl, sym, ap, subst, ◌∙◌, arith}
use Rattle.std.specs.Prelude.{codes, filter, find, map, slice_get, MatchOption}
use Rattle.std.specs.List.{list_any}
use Rattle.std.specs.Option.{option_to_list}
use Rattle.std.specs.Str.{bytes_eq}
use Rattle.std.proofs.lemmas.Bool.Decides.{nat_tests}
use Rattle.res_base.specs.Lists.{Each, Member, Pairwise}
use Rattle.res_base.proofs.ListLemmas.{each_in, member_split}
use Rattle.choice_rank.specs.Choices.{IsChoice}
use Rattle.choice_rank.specs.declared.variable.Costs.{Costs}
use Rattle.choice_rank.specs.declared.variable.Costs.TheVariants.{HomeFirst, AllOne}
use Rattle.choice_rank.specs.declared.variable.VarShape.{VarShape}
use Rattle.problem.proofs.UseLemmas.{each_find}
use Rattle.res_model.specs.Placed.{IsPlaced, HasRowAt, is_held, rows_named, rows_placed}
use Rattle.res_model.specs.Placement.{uses_at}
use Rattle.res_model.specs.Signals.{signal_named, rows_of, own_mode}
use Rattle.res_model.specs.Valid.{IsValid, IsSignal}
use Rattle.res_model.specs.Values.{is_at, rows_at, rows_elsewhere, use_at, placed, values_from, values_of, costs_of, home_costs, pin_values, pin_variables, variable_of}
use Rattle.res_model.specs.declared.project.Signal.{Signal}
use Rattle.res_model.specs.declared.table.Mode.{Mode}
use Rattle.res_model.specs.declared.table.PinUse.{PinUse}
use Rattle.res_model.specs.declared.table.TableParts.{TableParts}
use Rattle.res_model.specs.declared.table.TableSignal.{TableSignal}
use Rattle.board_fit.specs.Fixed.{all_settled, settled}
use Rattle.board_fit.specs.Parts.{one_value, home_alone}

-- ---- rows at distinct pins

abbrev AreApart : List PinUse → Type 0
AreApart rows = Pairwise (λ (u w : PinUse). u.pin ≢ w.pin) rows

not_at : (u : PinUse) (pin : ℕ) → u.pin ≢ pin → is_at pin u ≡ false
not_at u pin h = case (u.pin == pin) refl
  where
    case : (b : Bool) → (u.pin == pin) ≡ b → (u.pin == pin) ≡ false
    case true q = let same : u.pin ≡ pin = grind (arith, nat_tests, q) in absurd (h same)
    case false q = q

none_at : (pin : ℕ) (rows : List PinUse) → Each (λ (w : PinUse). pin ≢ w.pin) rows → rows_at pin rows ≡ []
none_at pin [] h = refl
none_at pin (row ∷ rows) h =
    let no_row : is_at pin row ≡ false = not_at row pin (λ e. h.0 (sym e)) in
    rw no_row (none_at pin rows h.1)

one_at : (u : PinUse) (rows : List PinUse) → AreApart rows → Member u rows → rows_at u.pin rows ≡ u ∷ []
one_at u [] apart m = absurd m
one_at u (row ∷ rows) apart m = elim m [
  | inl e ↦
      let here : is_at u.pin row ≡ true = grind (arith, nat_tests, ap (λ (w : PinUse). w.pin) e) in
      let rest : rows_at u.pin rows ≡ [] = none_at u.pin rows (subst (λ (w : PinUse). Each (λ (x : PinUse). w.pin ≢ x.pin) rows) (sym e) apart.0) in
      rw here (ap (λ (l : List PinUse). row ∷ l) rest ∙ ap (λ (w : PinUse). w ∷ []) (sym e))
  | inr k ↦
      let other : row.pin ≢ u.pin = each_in (λ (x : PinUse). row.pin ≢ x.pin) u rows apart.0 k in
      let no_row : is_at u.pin row ≡ false = not_at row u.pin other in
      rw no_row (one_at u rows apart.1 k)
]

any_at : (u : PinUse) (rows : List PinUse) → Member u rows → list_any (is_at u.pin) rows ≡ true
any_at u [] m = absurd m
any_at u (row ∷ rows) m = elim m [
  | inl e ↦ let here : is_at u.pin row ≡ true = grind (arith, nat_tests, ap (λ (w : PinUse). w.pin) e) in rw here refl
  | inr k ↦ later (is_at u.pin row) (any_at u rows k)
]
  where
    later : (b : Bool) → list_any (is_at u.pin) rows ≡ true → (b || list_any (is_at u.pin) rows) ≡ true
    later true h = refl
    later false h = h

-- ---- values are rows, where there are any

got_member : {X : Type 0} (xs : List X) (i : ℕ) (x : X) → slice_get xs i ≡ Some x → Member x xs
got_member [] i x e = absurd cc
got_member (y ∷ ys) zero x e = inl cc
got_member (y ∷ ys) (suc i) x e = inr (got_member ys i x e)

filtered : (p : PinUse → Bool) (u : PinUse) (rows : List PinUse) → Member u (filter p rows) → Member u rows
filtered p u [] m = absurd m
filtered p u (row ∷ rows) m = case (p row) (filtered p u rows) m
  where
    case : (b : Bool) → (Member u (filter p rows) → Member u rows) → Member u (cond b (row ∷ filter p rows) (filter p rows)) → Member u (row ∷ rows)
    case true rest k = elim k [
      | inl e ↦ inl e
      | inr h ↦ inr (rest h)
    ]
    case false rest k = inr (rest k)

from_rows : (row : PinUse) (rows : List PinUse) (own : Option Mode) (locked : Bool) (home : Option ℕ) (u : PinUse) → Member u (values_from (row ∷ rows) own locked home) → Member u (row ∷ rows)
from_rows row rows own locked None u m = m
from_rows row rows own locked (Some home) u m = elim (member_split u (rows_at home (row ∷ rows)) (cond locked [] (rows_elsewhere home (row ∷ rows))) m) [
  | inl k ↦ filtered (is_at home) u (row ∷ rows) k
  | inr k ↦ other locked k
]
  where
    other : (b : Bool) → Member u (cond b [] (rows_elsewhere home (row ∷ rows))) → Member u (row ∷ rows)
    other true h = absurd h
    other false h = filtered (λ w. not (is_at home w)) u (row ∷ rows) h

-- a signal without rows stays at its home
own_alone : (own : Option Mode) (locked : Bool) (home : Option ℕ) (u : PinUse) → Member u (values_from [] own locked home) → use_at u.pin own ≡ u ∷ []
own_alone own locked None u m = absurd m
own_alone None locked (Some home) u m = absurd m
own_alone (Some mode) locked (Some home) u m = elim m [
  | inl e ↦
      let w : PinUse = record { pin = home; mode = mode } in
      ap (λ (x : PinUse). (let y : PinUse = record { pin = x.pin; mode = mode } in y) ∷ []) e ∙ ap (λ (x : PinUse). x ∷ []) (sym e)
  | inr k ↦ absurd k
]

append_none : (us : List PinUse) → us ++ [] ≡ us
append_none [] = refl
append_none (u ∷ us) = ap (λ (l : List PinUse). u ∷ l) (append_none us)

stays : (rows : List PinUse) (own : Option Mode) (locked : Bool) (home : Option ℕ) (u : PinUse) → AreApart rows → Member u (values_from rows own locked home) → placed rows own true u.pin ≡ u ∷ []
stays [] own locked home u apart m = own_alone own locked home u m
stays (row ∷ rows) own locked home u apart m = append_none (rows_at u.pin (row ∷ rows)) ∙ one_at u (row ∷ rows) apart (from_rows row rows own locked home u m)

home_costs_none : (rows : List PinUse) (own : Option Mode) (locked : Bool) (home : Option ℕ) (u : PinUse) → Member u (values_from rows own locked home) → home_costs rows u.pin ≡ HomeFirst
home_costs_none [] own locked home u m = refl
home_costs_none (row ∷ rows) own locked home u m =
    ap (λ (b : Bool). (let c : Costs = cond b HomeFirst AllOne in c)) (any_at u (row ∷ rows) (from_rows row rows own locked home u m))

found_apart : (n : ℕ) (o : Option TableSignal) → MatchOption o (Unit {0}) (IsSignal n) → AreApart (rows_of o)
found_apart n None h = tt
found_apart n (Some s) h = h.rows.apart

module _ (t : TableParts) (s : Signal) (valid : IsValid t) (u : PinUse) (m : Member u (values_of t s)) where
  abbrev found : Option TableSignal
  found = find (λ x. bytes_eq x.name s.name) t.signals

  apart : AreApart (rows_of found)
  apart = found_apart (length t.pins) found (each_find (IsSignal (length t.pins)) (λ x. bytes_eq x.name s.name) t.signals valid.signals.each)

  pub settled_values : values_of t (settled s u.pin) ≡ u ∷ []
  unfolding values_of signal_named
  settled_values = stays (rows_of found) (own_mode s.name found) s.locked s.home u apart m

  pub settled_costs : costs_of t (settled s u.pin) ≡ HomeFirst
  unfolding values_of costs_of signal_named
  settled_costs = home_costs_none (rows_of found) (own_mode s.name found) s.locked s.home u m

  pub settled_variable : variable_of t (settled s u.pin) ≡ home_alone
  settled_variable =
      ap (λ (us : List PinUse). (let v : VarShape = record { size = length us; costs = costs_of t (settled s u.pin) } in v)) settled_values
      ∙ ap (λ (c : Costs). (let v : VarShape = record { size = 1; costs = c } in v)) settled_costs

-- ---- all signals

-- a position of a list of values
value_there : (us : List PinUse) (x : ℕ) → x < length us → (u : PinUse) × (slice_get us x ≡ Some u)
value_there [] x l = absurd (omega arith)
value_there (u ∷ us) zero l = (u, refl)
value_there (u ∷ us) (suc x) l = value_there us x (omega (arith, l))

-- each use is a value of the list beside it
abbrev pub AreMembers : List PinUse → List (List PinUse) → Type 0
AreMembers [] [] = Unit {0}
AreMembers [] (us ∷ uss) = ⊥
AreMembers (u ∷ us) [] = ⊥
AreMembers (u ∷ us) (vs ∷ vss) = Member u vs × AreMembers us vss

pub record AreSettled (t : TableParts) (ss : List Signal) (us : List PinUse) : Type 0 where
  pub values : pin_values t (all_settled ss us) ≡ map one_value us
  pub variables : pin_variables t (all_settled ss us) ≡ map (λ (u : PinUse). home_alone) us
  pub many : length us ≡ length ss
  pub members : AreMembers us (pin_values t ss)

pub all_settled_are : (t : TableParts) (ss : List Signal) (at : List ℕ) → IsValid t → IsChoice (pin_variables t ss) at → AreSettled t ss (uses_at (pin_values t ss) at)
all_settled_are t [] at valid choice = record { values = refl; variables = refl; many = refl; members = tt }
all_settled_are t (s ∷ ss) [] valid choice = absurd choice
all_settled_are t (s ∷ ss) (x ∷ at) valid choice =
    let found = value_there (values_of t s) x choice.0 in
    let u : PinUse = found.0 in
    let m : Member u (values_of t s) = got_member (values_of t s) x u found.1 in
    let rest : AreSettled t ss (uses_at (pin_values t ss) at) = all_settled_are t ss at valid choice.1 in
    let us : uses_at (pin_values t (s ∷ ss)) (x ∷ at) ≡ u ∷ uses_at (pin_values t ss) at = ap (λ (o : Option PinUse). option_to_list o ++ uses_at (pin_values t ss) at) found.1 in
    subst (AreSettled t (s ∷ ss)) (sym us) record {
      values = ap (λ (l : List PinUse). l ∷ pin_values t (all_settled ss (uses_at (pin_values t ss) at))) (settled_values t s valid u m) ∙ ap (λ (ls : List (List PinUse)). one_value u ∷ ls) rest.values;
      variables = ap (λ (v : VarShape). v ∷ pin_variables t (all_settled ss (uses_at (pin_values t ss) at))) (settled_variable t s valid u m) ∙ ap (λ (vs : List VarShape). home_alone ∷ vs) rest.variables;
      many = ap suc rest.many;
      members = (m, rest.members);
    }

-- ---- the settled signals are placed

settled_stays : (rows : List PinUse) (own : Option Mode) (locked : Bool) (home : Option ℕ) (u : PinUse) → Member u (values_from rows own locked home) → HasRowAt rows u.pin
settled_stays [] own locked home u m = inl refl
settled_stays (row ∷ rows) own locked home u m = inr (any_at u (row ∷ rows) (from_rows row rows own locked home u m))

held_too : (b : Bool) (rows : List PinUse) (pin : ℕ) → HasRowAt rows pin → HasRowAt (cond b [] rows) pin
held_too true rows pin h = inl refl
held_too false rows pin h = h

settled_placed : (t : TableParts) (s : Signal) (u : PinUse) → IsPlaced t s → u.pin < length t.pins → Member u (values_of t s) → IsPlaced t (settled s u.pin)
unfolding values_of rows_named rows_placed is_held
settled_placed t s u p within m = record {
  named = p.named;
  needed = λ e. absurd cc;
  at_home = λ e. within;
  stays = λ e. held_too (bytes_eq s.name (codes "-")) (rows_of (signal_named t s.name)) u.pin (settled_stays (rows_of (signal_named t s.name)) (own_mode s.name (signal_named t s.name)) s.locked s.home u m);
}

pub all_placed : (t : TableParts) (ss : List Signal) (us : List PinUse) → Each (IsPlaced t) ss → Each (λ (u : PinUse). u.pin < length t.pins) us → AreMembers us (pin_values t ss) → Each (IsPlaced t) (all_settled ss us)
all_placed t [] us p within m = tt
all_placed t (s ∷ ss) [] p within m = absurd m
all_placed t (s ∷ ss) (u ∷ us) p within m = (settled_placed t s u p.0 within.0 m.0, all_placed t ss us p.1 within.1 m.1)

pub settled_length : (ss : List Signal) (us : List PinUse) → length (all_settled ss us) ≡ length ss
settled_length [] us = refl
settled_length (s ∷ ss) [] = refl
settled_length (s ∷ ss) (u ∷ us) = ap suc (settled_length ss us)

pub members_within : (P : PinUse → Type 0) (us : List PinUse) (vss : List (List PinUse)) → Each (Each P) vss → AreMembers us vss → Each P us
members_within P [] vss h m = tt
members_within P (u ∷ us) [] h m = absurd m
members_within P (u ∷ us) (vs ∷ vss) h m = (each_in P u vs h.0 m.0, members_within P us vss h.1 m.1)
