-- Pins alone without a Hall set have a placement that meets the limits.
use Rattle.std.proofs.Common.{◌≡◌, ◌≢◌, ℕ, zero, suc, ◌+◌, ◌-◌, ◌<◌, ◌≤◌, ◌++◌, ◌==◌, ◌&&◌, ◌||◌, List, [], ◌∷◌, length, get_or, take, drop, map, Bool, true, false, leb, cond, Option, Some, None, refl, sym, subst, ap, ◌∙◌, arith}
use Rattle.std.specs.Prelude.{filter, find, not, MatchOption, option_map, slice_get, unwrap_or}
use Rattle.std.specs.List.{list_all, list_any}
use Rattle.std.specs.Str.{bytes_eq}
use Rattle.std.proofs.lemmas.Bool.Decides.{nat_tests}
use Rattle.res_base.specs.Lists.{Each}
use Rattle.res_base.proofs.ListLemmas.{each_map}
use Rattle.choice_rank.specs.Choices.{IsChoice}
use Rattle.choice_rank.specs.declared.variable.VarShape.{VarShape}
use Rattle.box_rules.specs.Contest.{Contestant, competes, contestants, hall_in, joined, members_of, named, resource_of, uses_in, wants}
use Rattle.box_rules.specs.Inside.{AreInside}
use Rattle.box_rules.proofs.ContestLemmas.{box_inside}
use Rattle.box_rules.proofs.JudgeLemmas.{kept_apart, none_full, nothing}
use Rattle.box_rules.proofs.MemberLemmas.{as_many, member, no_run}
use Rattle.box_split.specs.Boxes.{IsBox, LiesIn, Run, is_single, whole}
use Rattle.pin_match.specs.Assignments.{IsFull}
use Rattle.pin_match.proofs.LargestLemmas.{hall_none}
use Rattle.pin_rules.proofs.FitLemmas.{sentences_fit}
use Rattle.problem.specs.Problem.{HaveValues, are_alike}
use Rattle.problem.proofs.UseLemmas.{each_find}
use Rattle.res_model.specs.Placement.{fits, is_exti, uses_at}
use Rattle.res_model.specs.Signals.{own_mode, rows_of, signal_named}
use Rattle.res_model.specs.Valid.{IsModeOf, IsSignal, IsValid}
use Rattle.res_model.specs.Values.{is_at, pin_values, rows_at, rows_elsewhere, use_at, values_from, values_of}
use Rattle.res_model.specs.declared.project.Signal.{Signal}
use Rattle.res_model.specs.declared.table.Mode.{Mode}
use Rattle.res_model.specs.declared.table.Mode.TheVariants as mode
use Rattle.res_model.specs.declared.table.PinUse.{PinUse}
use Rattle.res_model.specs.declared.table.Role.{Role}
use Rattle.res_model.specs.declared.table.Role.TheVariants as role
use Rattle.res_model.specs.declared.table.TableParts.{TableParts}
use Rattle.res_model.specs.declared.table.TableSignal.{TableSignal}
use Rattle.search_api.specs.declared.verdict.Class.{Class}
use Rattle.search_api.specs.declared.verdict.Class.TheVariants.{Exti, Pins}

-- ---- an interrupt has one value

plain_mode : (r : Role) (m : Mode) → IsModeOf r m → is_exti m ≡ false
plain_mode role.Alt (mode.Alt n) h = refl
plain_mode role.Alt mode.Input h = absurd h
plain_mode role.Alt mode.Output h = absurd h
plain_mode role.Alt mode.Analog h = absurd h
plain_mode role.Alt mode.Exti h = absurd h
plain_mode role.Alt mode.Osc h = absurd h
plain_mode role.Alt mode.Held h = absurd h
plain_mode role.Input m h = absurd h
plain_mode role.Output m h = absurd h
plain_mode role.Analog m h = ap is_exti h
plain_mode role.Exti m h = absurd h
plain_mode role.Osc m h = ap is_exti h

ArePlain : List PinUse → Type 0
ArePlain us = Each (λ (u : PinUse). is_exti u.mode ≡ false) us

plain_filter : (p : PinUse → Bool) (us : List PinUse) → ArePlain us → ArePlain (filter p us)
unfolding ArePlain
plain_filter p [] h = tt
plain_filter p (u ∷ us) h = case (p u) (plain_filter p us h.1)
  where
    case : (b : Bool) → ArePlain (filter p us) → ArePlain (cond b (u ∷ filter p us) (filter p us))
    case true rest = (h.0, rest)
    case false rest = rest

plain_append : (xs ys : List PinUse) → ArePlain xs → ArePlain ys → ArePlain (xs ++ ys)
unfolding ArePlain
plain_append [] ys h k = k
plain_append (x ∷ xs) ys h k = (h.0, plain_append xs ys h.1 k)

-- plain values are not all interrupts, where there are any
few_plain : (us : List PinUse) → ArePlain us → list_all (λ (u : PinUse). is_exti u.mode) us ≡ true → length us ≤ 1
unfolding ArePlain
few_plain [] h e = omega arith
few_plain (u ∷ us) h e = absurd (never (is_exti u.mode) (list_all (λ (w : PinUse). is_exti w.mode) us) h.0 e)
  where
    never : (a b : Bool) → a ≡ false → (a && b) ≡ true → ⊥
    never true b e f = absurd cc
    never false b e f = absurd cc

own_few : (home : ℕ) (own : Option Mode) → length (use_at home own) ≤ 1
own_few home None = omega arith
own_few home (Some m) = omega arith

one_from : (rows : List PinUse) (own : Option Mode) (locked : Bool) (home : Option ℕ) → ArePlain rows → list_all (λ (u : PinUse). is_exti u.mode) (values_from rows own locked home) ≡ true → length (values_from rows own locked home) ≤ 1
unfolding ArePlain
one_from rows own locked None h e = few_plain rows h e
one_from [] own locked (Some home) h e = own_few home own
one_from (row ∷ rows) own locked (Some home) h e =
    few_plain (rows_at home (row ∷ rows) ++ cond locked [] (rows_elsewhere home (row ∷ rows)))
    (plain_append (rows_at home (row ∷ rows)) (cond locked [] (rows_elsewhere home (row ∷ rows))) (plain_filter (is_at home) (row ∷ rows) h) (others locked)) e
  where
    others : (b : Bool) → ArePlain (cond b [] (rows_elsewhere home (row ∷ rows)))
    others true = tt
    others false = plain_filter (λ u. not (is_at home u)) (row ∷ rows) h

rows_plain : (n : ℕ) (o : Option TableSignal) → MatchOption o (Unit {0}) (IsSignal n) → ArePlain (rows_of o)
unfolding ArePlain
rows_plain n None h = tt
rows_plain n (Some s) h = each_map (λ (u : PinUse). IsModeOf s.role u.mode) (λ (u : PinUse). is_exti u.mode ≡ false) s.at (λ u k. plain_mode s.role u.mode k) h.rows.modes

other_class : {A : Type 0} → Pins ≡ Exti → A
other_class e = cc

pub HasOneLine : List PinUse → Type 0
HasOneLine us = competes Exti us ≡ true → length us ≤ 1

one_line : (t : TableParts) (s : Signal) → IsValid t → HasOneLine (values_of t s)
unfolding HasOneLine values_of signal_named
one_line t s valid e =
    let found : Option TableSignal = find (λ x. bytes_eq x.name s.name) t.signals in
    one_from (rows_of found) (own_mode s.name found) s.locked s.home (rows_plain (length t.pins) found (each_find (IsSignal (length t.pins)) (λ x. bytes_eq x.name s.name) t.signals valid.signals.each)) e

pub all_one_line : (t : TableParts) (ss : List Signal) → IsValid t → Each HasOneLine (pin_values t ss)
all_one_line t [] valid = tt
all_one_line t (s ∷ ss) valid = (one_line t s valid, all_one_line t ss valid)

-- ---- interrupts have no values that are none

none_is : (us : List PinUse) → ArePlain us → list_any (λ (u : PinUse). is_exti u.mode) us ≡ false
unfolding ArePlain
none_is [] h = refl
none_is (u ∷ us) h = rw (h.0) (none_is us h.1)

plain_alike : (us : List PinUse) → ArePlain us → are_alike us ≡ true
plain_alike us h = rw (none_is us h) refl

own_alike : (home : ℕ) (own : Option Mode) → are_alike (use_at home own) ≡ true
own_alike home None = refl
own_alike home (Some m) = one (is_exti m)
  where
    one : (b : Bool) → (not (b || false) || (b && true)) ≡ true
    one true = refl
    one false = refl

alike_from : (rows : List PinUse) (own : Option Mode) (locked : Bool) (home : Option ℕ) → ArePlain rows → are_alike (values_from rows own locked home) ≡ true
unfolding ArePlain
alike_from rows own locked None h = plain_alike rows h
alike_from [] own locked (Some home) h = own_alike home own
alike_from (row ∷ rows) own locked (Some home) h =
    plain_alike (rows_at home (row ∷ rows) ++ cond locked [] (rows_elsewhere home (row ∷ rows)))
    (plain_append (rows_at home (row ∷ rows)) (cond locked [] (rows_elsewhere home (row ∷ rows))) (plain_filter (is_at home) (row ∷ rows) h) (others locked))
  where
    others : (b : Bool) → ArePlain (cond b [] (rows_elsewhere home (row ∷ rows)))
    others true = tt
    others false = plain_filter (λ u. not (is_at home u)) (row ∷ rows) h

signal_alike : (t : TableParts) (s : Signal) → IsValid t → are_alike (values_of t s) ≡ true
unfolding values_of signal_named
signal_alike t s valid =
    let found : Option TableSignal = find (λ x. bytes_eq x.name s.name) t.signals in
    alike_from (rows_of found) (own_mode s.name found) s.locked s.home (rows_plain (length t.pins) found (each_find (IsSignal (length t.pins)) (λ x. bytes_eq x.name s.name) t.signals valid.signals.each))

pub all_alike : (t : TableParts) (ss : List Signal) → IsValid t → list_all are_alike (pin_values t ss) ≡ true
all_alike t [] valid = refl
all_alike t (s ∷ ss) valid = rw (signal_alike t s valid) (all_alike t ss valid)

-- ---- the box of one choice

abbrev pub box_at : List ℕ → List Run
box_at at = map (λ (x : ℕ). (let r : Run = record { low = x; high = x } in r)) at

at_box : (vs : List VarShape) (at : List ℕ) → IsChoice vs at → IsBox vs (box_at at)
at_box [] [] h = tt
at_box [] (x ∷ at) h = absurd h
at_box (v ∷ vs) [] h = absurd h
at_box (v ∷ vs) (x ∷ at) h = (omega arith, h.0, at_box vs at h.1)

at_single : (at : List ℕ) → is_single (box_at at) ≡ true
at_single [] = refl
at_single (x ∷ at) = let same : leb x x ≡ true = grind (arith, nat_tests) in rw same (at_single at)

at_lies : (at : List ℕ) → LiesIn (box_at at) at
at_lies [] = tt
at_lies (x ∷ at) = (omega arith, omega arith, at_lies at)

-- interrupts are in it as in the box of all choices
same_lines : (v : ℕ) (uses : List (List PinUse)) (vs : List VarShape) (at : List ℕ) → HaveValues vs uses → IsChoice vs at → Each HasOneLine uses → contestants Exti v uses (box_at at) ≡ contestants Exti v uses (whole vs)
unfolding HasOneLine
same_lines v [] vs at have choice h = refl
same_lines v (us ∷ uss) [] at have choice h = absurd have
same_lines v (us ∷ uss) (w ∷ vs) [] have choice h = absurd choice
same_lines v (us ∷ uss) (w ∷ vs) (x ∷ at) have choice h = case (competes Exti us) refl (same_lines (v + 1) uss vs at have.1 choice.1 h.1)
  where
    case : (b : Bool) → competes Exti us ≡ b → contestants Exti (v + 1) uss (box_at at) ≡ contestants Exti (v + 1) uss (whole vs)
        → joined b record { variable = v; uses = uses_in us record { low = x; high = x } } (contestants Exti (v + 1) uss (box_at at)) ≡ joined b record { variable = v; uses = uses_in us record { low = 0; high = w.size - 1 } } (contestants Exti (v + 1) uss (whole vs))
    case true e rest =
        let one : length us ≤ 1 = h.0 e in
        let low : x ≡ 0 = omega (arith, one, have.0, choice.0) in
        let high : x ≡ w.size - 1 = omega (arith, one, have.0, choice.0) in
        let runs : uses_in us record { low = x; high = x } ≡ uses_in us record { low = 0; high = w.size - 1 } =
        ap (λ (n : ℕ). uses_in us record { low = n; high = x }) low ∙ ap (λ (n : ℕ). uses_in us record { low = 0; high = n }) high in
        ap (λ (l : List PinUse). (let c : Contestant = record { variable = v; uses = l } in c) ∷ contestants Exti (v + 1) uss (box_at at)) runs
        ∙ ap (λ (cs : List Contestant). (let c : Contestant = record { variable = v; uses = uses_in us record { low = 0; high = w.size - 1 } } in c) ∷ cs) rest
    case false e rest = rest

-- ---- a choice of the pins that an assignment gives

-- some use of the list is of the pin
pub record IsThere (us : List PinUse) (pin : ℕ) : Type 0 where
  place : ℕ
  within : place < length us
  found : PinUse
  is : slice_get us place ≡ Some found
  pin_is : found.pin ≡ pin

there : (us : List PinUse) (pin : ℕ) → list_any (λ (u : PinUse). u.pin == pin) us ≡ true → IsThere us pin
there [] pin e = absurd cc
there (u ∷ us) pin e = case (u.pin == pin) refl (there us pin) e
  where
    case : (b : Bool) → (u.pin == pin) ≡ b → (list_any (λ (w : PinUse). w.pin == pin) us ≡ true → IsThere us pin) → (b || list_any (λ (w : PinUse). w.pin == pin) us) ≡ true → IsThere (u ∷ us) pin
    case true q rest h = record { place = 0; within = omega arith; found = u; is = refl; pin_is = grind (arith, nat_tests, q) }
    case false q rest h =
        let r : IsThere us pin = rest h in
        record { place = r.place + 1; within = omega (arith, r.within); found = r.found; is = ap (slice_get (u ∷ us)) (one_more r.place) ∙ r.is; pin_is = r.pin_is }
      where
        one_more : (n : ℕ) → n + 1 ≡ suc n
        one_more n = omega arith

pub record IsPicked (s : ℕ) (uses : List (List PinUse)) (vs : List VarShape) (pins : ℕ → ℕ) : Type 0 where
  pub at : List ℕ
  pub choice : IsChoice vs at
  pub uses_are : (i : ℕ) → i < length uses → (u : PinUse) × (slice_get (get_or uses i []) (get_or at i 0) ≡ Some u) × (u.pin ≡ pins (s + i))

picked : (s : ℕ) (uses : List (List PinUse)) (vs : List VarShape) (pins : ℕ → ℕ) → HaveValues vs uses → ((i : ℕ) → i < length uses → list_any (λ (u : PinUse). u.pin == pins (s + i)) (get_or uses i []) ≡ true) → IsPicked s uses vs pins
picked s [] [] pins have h = record { at = []; choice = tt; uses_are = λ i l. absurd (omega (arith, l)) }
picked s [] (v ∷ vs) pins have h = absurd have
picked s (us ∷ uss) [] pins have h = absurd have
picked s (us ∷ uss) (v ∷ vs) pins have h =
    let first : list_any (λ (u : PinUse). u.pin == pins s) us ≡ true = subst (λ (n : ℕ). list_any (λ (u : PinUse). u.pin == pins n) us ≡ true) (no_more s) (h 0 (omega arith)) in
    let x : IsThere us (pins s) = there us (pins s) first in
    let rest : IsPicked (s + 1) uss vs pins = picked (s + 1) uss vs pins have.1 (λ i l. subst (λ (n : ℕ). list_any (λ (u : PinUse). u.pin == pins n) (get_or uss i []) ≡ true) (one_on s i) (h (suc i) (omega (arith, l)))) in
    record {
      at = x.place ∷ rest.at;
      choice = (omega (arith, x.within, have.0), rest.choice);
      uses_are = uses_of x rest;
    }
  where
    no_more : (n : ℕ) → n + 0 ≡ n
    no_more n = omega arith

    one_on : (n i : ℕ) → n + suc i ≡ n + 1 + i
    one_on n i = omega arith

    uses_of : (x : IsThere us (pins s)) (rest : IsPicked (s + 1) uss vs pins) (i : ℕ) → i < length (us ∷ uss) → (u : PinUse) × (slice_get (get_or (us ∷ uss) i []) (get_or (x.place ∷ rest.at) i 0) ≡ Some u) × (u.pin ≡ pins (s + i))
    uses_of x rest zero l = (x.found, x.is, x.pin_is ∙ ap pins (sym (no_more s)))
    uses_of x rest (suc i) l =
        let r = rest.uses_are i (omega (arith, l)) in
        (r.0, r.1, r.2 ∙ ap pins (sym (one_on s i)))

-- ---- parts of lists

any_take : (p : PinUse → Bool) (n : ℕ) (us : List PinUse) → list_any p (take n us) ≡ true → list_any p us ≡ true
any_take p zero us e = absurd cc
any_take p (suc n) [] e = e
any_take p (suc n) (u ∷ us) e = case (p u) (any_take p n us) e
  where
    case : (b : Bool) → (list_any p (take n us) ≡ true → list_any p us ≡ true) → (b || list_any p (take n us)) ≡ true → (b || list_any p us) ≡ true
    case true rest h = refl
    case false rest h = rest h

any_drop : (p : PinUse → Bool) (n : ℕ) (us : List PinUse) → list_any p (drop n us) ≡ true → list_any p us ≡ true
any_drop p zero us e = e
any_drop p (suc n) [] e = e
any_drop p (suc n) (u ∷ us) e = later (p u) (any_drop p n us e)
  where
    later : (b : Bool) → list_any p us ≡ true → (b || list_any p us) ≡ true
    later true h = refl
    later false h = h

any_range : (p : PinUse → Bool) (r : Run) (us : List PinUse) → list_any p (uses_in us r) ≡ true → list_any p us ≡ true
any_range p r us e = any_drop p r.low us (any_take p (r.high + 1 - r.low) (drop r.low us) e)

one_there : (p : PinUse → Bool) (us : List PinUse) (x : ℕ) (u : PinUse) → slice_get us x ≡ Some u → p u ≡ true → list_any p (uses_in us record { low = x; high = x }) ≡ true
one_there p us x u is ok = ap (λ (n : ℕ). list_any p (take n (drop x us))) (one x) ∙ at_prefix us x is
  where
    one : (n : ℕ) → n + 1 - n ≡ 1
    one n = omega arith

    at_prefix : (ws : List PinUse) (n : ℕ) → slice_get ws n ≡ Some u → list_any p (take 1 (drop n ws)) ≡ true
    at_prefix [] n e = absurd cc
    at_prefix (w ∷ ws) zero e = let same : w ≡ u = cc in rw same (ap (λ (b : Bool). b || false) ok)
    at_prefix (w ∷ ws) (suc n) e = at_prefix ws n e

-- each signal competes for pins
all_members : (s : ℕ) (uses : List (List PinUse)) (i : ℕ) → i < length uses → get_or (members_of Pins s uses) i 0 ≡ s + i
all_members s [] i l = absurd (omega (arith, l))
all_members s (us ∷ uss) zero l = omega arith
all_members s (us ∷ uss) (suc i) l = omega (arith, all_members (s + 1) uss i (omega (arith, l)))

members_long : (s : ℕ) (uses : List (List PinUse)) → length (members_of Pins s uses) ≡ length uses
members_long s [] = refl
members_long s (us ∷ uss) = ap suc (members_long (s + 1) uss)

run_of_at : (at : List ℕ) (i : ℕ) → i < length at → get_or (box_at at) i no_run ≡ record { low = get_or at i 0; high = get_or at i 0 }
run_of_at [] i l = absurd (omega (arith, l))
run_of_at (x ∷ at) zero l = refl
run_of_at (x ∷ at) (suc i) l = run_of_at at i (omega (arith, l))

-- ---- the placement

module _ (t : TableParts) (uses : List (List PinUse)) (vs : List VarShape) (have : HaveValues vs uses) (inside : AreInside uses (whole vs)) (few : length uses ≤ 192) (full : IsFull (length (contestants Pins 0 uses (whole vs))) 192 (wants t Pins (contestants Pins 0 uses (whole vs)))) where
  many : length (contestants Pins 0 uses (whole vs)) ≡ length uses
  many = as_many Pins 0 0 uses (whole vs) inside ∙ members_long 0 uses

  pub pin_at : ℕ → ℕ
  pin_at i = unwrap_or (full.0 i) 0

  given : (i : ℕ) → i < length uses → full.0 i ≡ Some (pin_at i)
  unfolding pin_at
  given i l =
      let r = full.2 i (omega (arith, l, many)) in
      r.1 ∙ ap Some (sym (ap (λ (o : Option ℕ). unwrap_or o 0) r.1))

  wanted : (i : ℕ) → i < length uses → list_any (λ (u : PinUse). u.pin == pin_at i) (get_or uses i []) ≡ true
  wanted i l =
      let m = member t Pins 0 0 uses (whole vs) inside i (omega (arith, l, many)) in
      let place : get_or (members_of Pins 0 uses) i 0 - 0 ≡ i = omega (arith, all_members 0 uses i l) in
      let w : wants t Pins (contestants Pins 0 uses (whole vs)) i (pin_at i) ≡ true = full.1.in_set i (pin_at i) (omega (arith, l, many)) (given i l) in
      let here : list_any (λ (u : PinUse). u.pin == pin_at i) (uses_in (get_or uses (get_or (members_of Pins 0 uses) i 0 - 0) []) (get_or (whole vs) (get_or (members_of Pins 0 uses) i 0 - 0) no_run)) ≡ true = sym (m.wanted (pin_at i)) ∙ w in
      subst (λ (n : ℕ). list_any (λ (u : PinUse). u.pin == pin_at i) (get_or uses n []) ≡ true) place
      (any_range (λ (u : PinUse). u.pin == pin_at i) (get_or (whole vs) (get_or (members_of Pins 0 uses) i 0 - 0) no_run) (get_or uses (get_or (members_of Pins 0 uses) i 0 - 0) []) here)

  none_more : (n : ℕ) → n ≡ 0 + n
  none_more n = omega arith

  pub the_picked : IsPicked 0 uses vs pin_at
  the_picked = picked 0 uses vs pin_at have (λ i l. subst (λ (n : ℕ). list_any (λ (u : PinUse). u.pin == pin_at n) (get_or uses i []) ≡ true) (none_more i) (wanted i l))

  box_has : AreInside uses (box_at the_picked.at)
  box_has = box_inside vs uses (box_at the_picked.at) have (at_box vs the_picked.at the_picked.choice)

  many_too : length (contestants Pins 0 uses (box_at the_picked.at)) ≡ length uses
  many_too = as_many Pins 0 0 uses (box_at the_picked.at) box_has ∙ members_long 0 uses

  long_at : (ws : List VarShape) (xs : List ℕ) (uss : List (List PinUse)) → HaveValues ws uss → IsChoice ws xs → length xs ≡ length uss
  long_at [] [] [] a b = refl
  long_at [] [] (us ∷ uss) a b = absurd a
  long_at [] (x ∷ xs) uss a b = absurd b
  long_at (w ∷ ws) [] uss a b = absurd b
  long_at (w ∷ ws) (x ∷ xs) [] a b = absurd a
  long_at (w ∷ ws) (x ∷ xs) (us ∷ uss) a b = ap suc (long_at ws xs uss a.1 b.1)

  wanted_there : (i : ℕ) → i < length uses → wants t Pins (contestants Pins 0 uses (box_at the_picked.at)) i (pin_at i) ≡ true
  wanted_there i l =
      let m = member t Pins 0 0 uses (box_at the_picked.at) box_has i (omega (arith, l, many_too)) in
      let place : get_or (members_of Pins 0 uses) i 0 - 0 ≡ i = omega (arith, all_members 0 uses i l) in
      let within : i < length the_picked.at = omega (arith, l, long_at vs the_picked.at uses have the_picked.choice) in
      let p = the_picked.uses_are i l in
      let x : ℕ = get_or the_picked.at i 0 in
      let same : p.0.pin ≡ pin_at i = p.2 ∙ ap pin_at (sym (none_more i)) in
      let is_pin : (p.0.pin == pin_at i) ≡ true = grind (arith, nat_tests, same) in
      let one : list_any (λ (u : PinUse). u.pin == pin_at i) (uses_in (get_or uses i []) record { low = x; high = x }) ≡ true = one_there (λ (u : PinUse). u.pin == pin_at i) (get_or uses i []) x p.0 p.1 is_pin in
      let run : list_any (λ (u : PinUse). u.pin == pin_at i) (uses_in (get_or uses i []) (get_or (box_at the_picked.at) i no_run)) ≡ true = subst (λ (r : Run). list_any (λ (u : PinUse). u.pin == pin_at i) (uses_in (get_or uses i []) r) ≡ true) (sym (run_of_at the_picked.at i within)) one in
      m.wanted (pin_at i) ∙ subst (λ (n : ℕ). list_any (λ (u : PinUse). u.pin == pin_at i) (uses_in (get_or uses n []) (get_or (box_at the_picked.at) n no_run)) ≡ true) (sym place) run

  full_there : IsFull (length (contestants Pins 0 uses (box_at the_picked.at))) 192 (wants t Pins (contestants Pins 0 uses (box_at the_picked.at)))
  full_there = (
    full.0,
    record {
      in_set = λ v r l e.
          let within : v < length uses = omega (arith, l, many_too) in
          let same : pin_at v ≡ r = some_same (sym (given v within) ∙ e) in
          subst (λ (n : ℕ). wants t Pins (contestants Pins 0 uses (box_at the_picked.at)) v n ≡ true) same (wanted_there v within);
      in_range = λ v r l e. full.1.in_range v r (omega (arith, l, many_too, many)) e;
      apart = λ v w r l k e f. full.1.apart v w r (omega (arith, l, many_too, many)) (omega (arith, k, many_too, many)) e f;
    },
    λ v l. full.2 v (omega (arith, l, many_too, many)),
  )
    where
      some_same : {a b : ℕ} → ◌≡◌ {A = Option ℕ} (Some a) (Some b) → a ≡ b
      some_same e = cc

  pub no_hall_there : hall_in t Pins (contestants Pins 0 uses (box_at the_picked.at)) ≡ None
  unfolding hall_in
  no_hall_there = ap (option_map (named (contestants Pins 0 uses (box_at the_picked.at)))) (hall_none (length (contestants Pins 0 uses (box_at the_picked.at))) 192 (wants t Pins (contestants Pins 0 uses (box_at the_picked.at))) full_there)

-- one choice of the signals alone, without a Hall set of either class: its pins fit
module _ (t : TableParts) (uses : List (List PinUse)) (rs : List Run) (choice : List ℕ) (inside : AreInside uses rs) (lies : LiesIn rs choice) (single : is_single rs ≡ true) (alike : list_all are_alike uses ≡ true) (few : 0 + length uses ≤ 192)
    (pins : hall_in t Pins (contestants Pins 0 uses rs) ≡ None) (lines : hall_in t Exti (contestants Exti 0 uses rs) ≡ None) where
  abbrev taken : List PinUse
  taken = uses_at uses choice

  apart : (class : Class) → hall_in t class (contestants class 0 uses rs) ≡ None → (i j : ℕ) → i < j → j < length taken
      → (class ≡ Exti → is_exti (get_or taken i nothing).mode ≡ true) → (class ≡ Exti → is_exti (get_or taken j nothing).mode ≡ true)
      → resource_of t class (get_or taken i nothing) ≢ resource_of t class (get_or taken j nothing)
  apart class none = kept_apart t class 0 uses rs choice inside lies single (none_full t class 0 uses rs few none) alike

  any_default : (us : List PinUse) (i : ℕ) (d e : PinUse) → i < length us → get_or us i d ≡ get_or us i e
  any_default [] i d e l = absurd (omega arith)
  any_default (u ∷ us) zero d e l = refl
  any_default (u ∷ us) (suc i) d e l = any_default us i d e (omega arith)

  pub taken_fit : fits t taken ≡ true
  taken_fit =
      sentences_fit t taken record {
        pins = λ i j d l k e. apart Pins pins i j l k (λ q. other_class q) (λ q. other_class q)
            (ap (λ (u : PinUse). u.pin) (any_default taken i nothing d (omega (arith, l, k))) ∙ e ∙ ap (λ (u : PinUse). u.pin) (any_default taken j d nothing k));
        lines = λ i j d l k a b e. apart Exti lines i j l k
            (λ q. ap (λ (u : PinUse). is_exti u.mode) (any_default taken i nothing d (omega (arith, l, k))) ∙ ap is_exti a)
            (λ q. ap (λ (u : PinUse). is_exti u.mode) (any_default taken j nothing d k) ∙ ap is_exti b)
            (ap (λ (u : PinUse). resource_of t Exti u) (any_default taken i nothing d (omega (arith, l, k))) ∙ e ∙ ap (λ (u : PinUse). resource_of t Exti u) (any_default taken j d nothing k));
      }

-- pins that fit, where no signals are too many in the box of all choices
module _ (t : TableParts) (uses : List (List PinUse)) (vs : List VarShape) (have : HaveValues vs uses) (inside : AreInside uses (whole vs)) (alike : list_all are_alike uses ≡ true) (lines : Each HasOneLine uses) (few : 0 + length uses ≤ 192) where
  pub placed_somewhere : hall_in t Pins (contestants Pins 0 uses (whole vs)) ≡ None → hall_in t Exti (contestants Exti 0 uses (whole vs)) ≡ None
      → (at : List ℕ) × IsChoice vs at × (fits t (uses_at uses at) ≡ true)
  placed_somewhere pins exti =
      let full = none_full t Pins 0 uses (whole vs) few pins in
      let less : length uses ≤ 192 = omega (arith, few) in
      let x : IsPicked 0 uses vs (pin_at t uses vs have inside less full) = the_picked t uses vs have inside less full in
      let box : List Run = box_at x.at in
      let box_has_all : AreInside uses box = box_inside vs uses box have (at_box vs x.at x.choice) in
      let no_lines : hall_in t Exti (contestants Exti 0 uses box) ≡ None = ap (hall_in t Exti) (same_lines 0 uses vs x.at have x.choice lines) ∙ exti in
      (x.at, x.choice, taken_fit t uses box x.at box_has_all (at_lies x.at) (at_single x.at) alike few (no_hall_there t uses vs have inside less full) no_lines)
