-- The lines Mcu.Pin<k> that are written, in the order of k: those that were there, each with its new pin, and then those of the needs.
use Rattle.std.proofs.Common.{◌≡◌, ℕ, suc, ◌+◌, ◌^◌, ◌<◌, ◌≤◌, ◌&&◌, List, [], ◌∷◌, ◌++◌, length, map, not, false, cond, Option, Some, None, refl, sym, ap, ◌∙◌, subst, inl, inr, append-nil, arith}
use Rattle.std.specs.Prelude.{is_some}
use Rattle.std.specs.BTreeMap.{insert_entry}
use Rattle.std.specs.List.{flat_map}
use Rattle.std.specs.Ordering.{nat_cmp, match_ordering}
use Rattle.std.specs.declared.cmp.Ordering.{Ordering}
use Rattle.std.specs.declared.cmp.Ordering.TheVariants.{Less, Equal, Greater}
use Rattle.res_base.specs.Lists.{Each}
use Rattle.res_base.proofs.SumLemmas.{bool_cases}
use Rattle.res_model.specs.Valid.{ArePins}
use Rattle.res_model.specs.declared.project.Signal.{Signal}
use Rattle.res_model.specs.declared.table.PinUse.{PinUse}
use Rattle.res_model.specs.declared.table.TableParts.{TableParts}
use Rattle.ioc_text.specs.Lines.{pin_number}
use Rattle.problem.specs.ClockValues.{clock_at}
use Rattle.problem.specs.declared.parts.ProblemParts.{ProblemParts}
use Rattle.ioc_lines.specs.Entries.{Entry, Near, inserted, pin_values, pinned, pinned_by}
use Rattle.ioc_lines.proofs.KeyLemmas.{no_number}
use Rattle.ioc_lines.proofs.LookupLemmas.{Along, Rise, along_inserted, inserted_append, inserted_behind, pinned_append}
use Rattle.ioc_write.specs.Reading.{changed, entry_said}
use Rattle.ioc_write.specs.WriteBack.{clock_key, fate_named, has_variable, is_away, naming, pin_name, spelled, uses_of, variables}
use Rattle.ioc_write.specs.declared.fate.Fate.{Fate}
use Rattle.ioc_write.specs.declared.fate.Fate.TheVariants as fate
use Rattle.ioc_write.specs.declared.variable.Variable.{Variable}
use Rattle.ioc_write.proofs.AppendLemmas.{clock_entries, need_entries, needs_in, number_of_key, pin_key, signal_key}
use Rattle.ioc_write.proofs.ApartLemmas.{AllWithin, signal_first}
use Rattle.ioc_write.proofs.ChangeLemmas.{Becomes, BecomesOne, KeyClass, becomes, by_kept, by_moved, by_same, class_of, is_nothing, is_one, key_moves, of_clock, of_count, of_part, of_pin, with_pin_number}
use Rattle.ioc_write.proofs.ClocksBack.{number_none}
use Rattle.ioc_write.proofs.KeysOn.{IsBelow}
use Rattle.ioc_write.proofs.OutLemmas.{Suits, appended_entries, set_of}
use Rattle.ioc_write.proofs.TextBack.{NearAll}

abbrev Placed : Type 0
Placed = List (ℕ × List ℕ)

-- ---- the values that were there

-- a pin's name as its fate has it
abbrev pub renamed : TableParts → List ℕ → Fate → List ℕ
renamed t v fate.Kept = v
renamed t v (fate.Moved q) = pin_name t q
renamed t v fate.Taken = v

abbrev pub Follows : ProblemParts → List ℕ → List ℕ → List ℕ → Type 0
Follows p at v w = Near (renamed p.tables v (fate_named p at v)) w

along_append : (R : List ℕ → List ℕ → Type 0) (xs ys us vs : Placed) → Along R xs ys → Along R us vs → Along R (xs ++ us) (ys ++ vs)
along_append R [] [] us vs h k = k
along_append R [] (y ∷ ys) us vs h k = absurd h
along_append R (x ∷ xs) [] us vs h k = absurd h
along_append R (x ∷ xs) (y ∷ ys) us vs h k = (h.0, along_append R xs ys us vs h.1 k)

none_is : (o : Option ℕ) → is_some o ≡ false → o ≡ None
none_is None e = refl
none_is (Some n) e = absurd cc

module _ (p : ProblemParts) (at : List ℕ) (s : Suits p at) (pins : ℕ) where
  abbrev Named : List ℕ → List ℕ → Type 0
  Named v w = w ≡ renamed p.tables v (fate_named p at v)

  along_one : (o : Option ℕ) (v w : List ℕ) → Named v w → Along Named (pinned_by o v) (pinned_by o w ++ [])
  along_one None v w r = tt
  along_one (Some n) v w r = ((refl, r), tt)

  by_fate : (e : Entry) (f : Fate) → fate_named p at e.1 ≡ f → Along Named (pinned_by (pin_number e.0) e.1) (pinned (entry_said p at pins e (naming f)))
  by_fate e fate.Kept q = along_one (pin_number e.0) e.1 e.1 (ap (renamed p.tables e.1) (sym q))
  by_fate e (fate.Moved x) q = along_one (pin_number e.0) e.1 (pin_name p.tables x) (ap (renamed p.tables e.1) (sym q))
  by_fate e fate.Taken q = along_one (pin_number e.0) e.1 e.1 (ap (renamed p.tables e.1) (sym q))

  -- a key without a number gets none
  next_number : (key next : List ℕ) → Becomes p at key next → pin_number key ≡ None → pin_number next ≡ None
  next_number key next (by_same q special) n = ap pin_number q ∙ n
  next_number key next (by_kept q f) n = ap pin_number q ∙ n
  next_number key next (by_moved r f q) n = let m = key_moves p at (set_of p at s) key next r f q in ap pin_number m.begins.1 ∙ no_number m.begins.0

  no_pins : (e : Entry) (es : List Entry) → BecomesOne p at e es → pin_number e.0 ≡ None → pinned es ≡ []
  no_pins e es (is_nothing q) n = ap pinned q
  no_pins e es (is_one f q b) n = ap pinned q ∙ ap (λ (o : Option ℕ). pinned_by o f.1 ++ []) (next_number e.0 f.0 b n)

  other_entry : (e : Entry) → is_some (pin_number e.0) ≡ false → Along Named (pinned_by (pin_number e.0) e.1) (pinned (changed p at pins e))
  other_entry e n =
      let none = none_is (pin_number e.0) n in
      subst (λ (x : Placed). Along Named (pinned_by (pin_number e.0) e.1) x) (sym (no_pins e (changed p at pins e) (becomes p at pins e) none))
      (subst (λ (o : Option ℕ). Along Named (pinned_by o e.1) []) (sym none) tt)

  one_entry : (e : Entry) → KeyClass e.0 → Along Named (pinned_by (pin_number e.0) e.1) (pinned (changed p at pins e))
  one_entry e (of_pin y) = subst (λ (x : List Entry). Along Named (pinned_by (pin_number e.0) e.1) (pinned x)) (sym (with_pin_number p at pins e y)) (by_fate e (fate_named p at e.1) refl)
  one_entry e (of_count n y) = other_entry e n
  one_entry e (of_clock v n c y) = other_entry e n
  one_entry e (of_part n c y) = other_entry e n

  along_changed : (es : List Entry) → Along Named (pinned es) (pinned (flat_map (changed p at pins) es))
  along_changed [] = tt
  along_changed (e ∷ es) =
      subst (λ (x : Placed). Along Named (pinned_by (pin_number e.0) e.1 ++ pinned es) x) (sym (pinned_append (changed p at pins e) (flat_map (changed p at pins) es)))
      (along_append Named (pinned_by (pin_number e.0) e.1) (pinned (changed p at pins e)) (pinned es) (pinned (flat_map (changed p at pins) es)) (one_entry e (class_of e.0)) (along_changed es))

  near_one : (o : Option ℕ) (v w : List ℕ) → Near v w → Along Near (pinned_by o v) (pinned_by o w)
  near_one None v w n = tt
  near_one (Some k) v w n = ((refl, n), tt)

  along_near : (es fs : List Entry) → NearAll es fs → Along Near (pinned es) (pinned fs)
  along_near [] [] n = tt
  along_near [] (f ∷ fs) n = absurd n
  along_near (e ∷ es) [] n = absurd n
  along_near (e ∷ es) (f ∷ fs) n =
      along_append Near (pinned_by (pin_number e.0) e.1) (pinned_by (pin_number f.0) f.1) (pinned es) (pinned fs)
      (subst (λ (key : List ℕ). Along Near (pinned_by (pin_number e.0) e.1) (pinned_by (pin_number key) f.1)) n.0.0 (near_one (pin_number e.0) e.1 f.1 n.0.1)) (along_near es fs n.1)

  joined : (xs ys zs : Placed) → Along Named xs ys → Along Near ys zs → Along (Follows p at) xs zs
  joined [] [] [] h n = tt
  joined [] [] (z ∷ zs) h n = absurd n
  joined [] (y ∷ ys) zs h n = absurd h
  joined (x ∷ xs) [] zs h n = absurd h
  joined (x ∷ xs) (y ∷ ys) [] h n = absurd n
  joined (x ∷ xs) (y ∷ ys) (z ∷ zs) h n = ((h.0.0 ∙ n.0.0, subst (λ (v : List ℕ). Near v z.1) h.0.1 n.0.1), joined xs ys zs h.1 n.1)

  along_pinned : (es prefix : List Entry) → NearAll (flat_map (changed p at pins) es) prefix → Along (Follows p at) (pinned es) (pinned prefix)
  along_pinned es prefix near = joined (pinned es) (pinned (flat_map (changed p at pins) es)) (pinned prefix) (along_changed es) (along_near (flat_map (changed p at pins) es) prefix near)

-- ---- the numbers

abbrev AllBelow : ℕ → Placed → Type 0
AllBelow k es = Each (λ (e : ℕ × List ℕ). e.0 < k) es

below_one : (k : ℕ) (e : Entry) (o : Option ℕ) → pin_number e.0 ≡ o → IsBelow k e → AllBelow k (pinned_by o e.1)
below_one k e None q h = tt
below_one k e (Some n) q h = (h n q, tt)

each_append : (k : ℕ) (xs ys : Placed) → AllBelow k xs → AllBelow k ys → AllBelow k (xs ++ ys)
each_append k [] ys h g = g
each_append k (x ∷ xs) ys h g = (h.0, each_append k xs ys h.1 g)

below_pinned : (k : ℕ) (es : List Entry) → Each (IsBelow k) es → AllBelow k (pinned es)
below_pinned k [] h = tt
below_pinned k (e ∷ es) h = each_append k (pinned_by (pin_number e.0) e.1) (pinned es) (below_one k e (pin_number e.0) refl h.0) (below_pinned k es h.1)

below_along : (R : List ℕ → List ℕ → Type 0) (k : ℕ) (xs ys : Placed) → Along R xs ys → AllBelow k xs → AllBelow k ys
below_along R k [] [] a h = tt
below_along R k [] (y ∷ ys) a h = absurd a
below_along R k (x ∷ xs) [] a h = absurd a
below_along R k (x ∷ xs) (y ∷ ys) a h = (subst (λ (n : ℕ). n < k) a.0.0 h.0, below_along R k xs ys a.1 h.1)

below_by : (k : ℕ) (o : Ordering) (a b c : Placed) → AllBelow k a → AllBelow k b → AllBelow k c → AllBelow k (match_ordering o a b c)
below_by k Less a b c x y z = x
below_by k Equal a b c x y z = y
below_by k Greater a b c x y z = z

below_insert : (k : ℕ) (es : Placed) (j : ℕ) (v : List ℕ) → AllBelow k es → j < k → AllBelow k (insert_entry nat_cmp es j v)
below_insert k [] j v h l = (l, tt)
below_insert k (e ∷ es) j v h l = below_by k (nat_cmp j e.0) ((j, v) ∷ e ∷ es) ((e.0, v) ∷ es) (e ∷ insert_entry nat_cmp es j v) (l, h) (h.0, h.1) (h.0, below_insert k es j v h.1 l)

below_inserted : (k : ℕ) (placed es : Placed) → AllBelow k placed → AllBelow k es → AllBelow k (inserted placed es)
below_inserted k placed [] h g = h
below_inserted k placed (e ∷ es) h g = below_inserted k (insert_entry nat_cmp placed e.0 e.1) es (below_insert k placed e.0 e.1 h g.0) g.1

-- ---- the numbers of the needs

abbrev pub need_pins : TableParts → ℕ → List Signal → List PinUse → Placed
need_pins t k [] us = []
need_pins t k (s ∷ ss) [] = []
need_pins t k (s ∷ ss) (u ∷ us) = cond s.need ((k, pin_name t u.pin) ∷ need_pins t (k + 1) ss us) (need_pins t k ss us)

rise_needs : (t : TableParts) (k : ℕ) (ss : List Signal) (us : List PinUse) → Rise k (need_pins t k ss us)
rise_needs t k [] us = tt
rise_needs t k (s ∷ ss) [] = tt
rise_needs t k (s ∷ ss) (u ∷ us) = elim (bool_cases s.need) [
  | inl y ↦ rw y (refl, rise_needs t (k + 1) ss us)
  | inr n ↦ rw n (rise_needs t k ss us)
]

module _ (t : TableParts) (are : ArePins t.pins) where
  signal_none : (q : ℕ) → q < length t.pins → pin_number (signal_key (pin_name t q)) ≡ None
  signal_none q l = let b = signal_first t are q l in ap pin_number b.1 ∙ no_number b.0

  pinned_needs : (ss : List Signal) (us : List PinUse) (k : ℕ) → k + needs_in ss ≤ 2 ^ 64 → AllWithin t are us → pinned (need_entries t k ss us) ≡ need_pins t k ss us
  pinned_needs [] us k l w = refl
  pinned_needs (s ∷ ss) [] k l w = refl
  pinned_needs (s ∷ ss) (u ∷ us) k l w = elim (bool_cases s.need) [
    | inl y ↦
        let room : k + suc (needs_in ss) ≤ 2 ^ 64 = rw y at l in
        let low : k < 2 ^ 64 = omega (arith, room) in
        let pin : pinned_by (pin_number (pin_key k)) (pin_name t u.pin) ≡ (k, pin_name t u.pin) ∷ [] = ap (λ (o : Option ℕ). pinned_by o (pin_name t u.pin)) (number_of_key k low) in
        let signal : pinned_by (pin_number (signal_key (pin_name t u.pin))) s.name ≡ [] = ap (λ (o : Option ℕ). pinned_by o s.name) (signal_none u.pin w.0) in
        let rest = pinned_needs ss us (k + 1) (omega (arith, room)) w.1 in
        let all : pinned_by (pin_number (pin_key k)) (pin_name t u.pin) ++ (pinned_by (pin_number (signal_key (pin_name t u.pin))) s.name ++ pinned (need_entries t (k + 1) ss us)) ≡ (k, pin_name t u.pin) ∷ need_pins t (k + 1) ss us =
        ap (λ (x : Placed). x ++ (pinned_by (pin_number (signal_key (pin_name t u.pin))) s.name ++ pinned (need_entries t (k + 1) ss us))) pin
        ∙ ap (λ (x : Placed). (k, pin_name t u.pin) ∷ (x ++ pinned (need_entries t (k + 1) ss us))) signal
        ∙ ap (λ (x : Placed). (k, pin_name t u.pin) ∷ x) rest in
        rw y all
    | inr n ↦ let room : k + needs_in ss ≤ 2 ^ 64 = rw n at l in rw n (pinned_needs ss us k room w.1)
  ]

pinned_clocks : (p : ProblemParts) (at : List ℕ) (keys vs : List Variable) → pinned (clock_entries p at keys vs) ≡ []
pinned_clocks p at keys [] = refl
pinned_clocks p at keys (v ∷ vs) = elim (bool_cases (is_away p at v && not (has_variable keys v))) [
  | inl y ↦
      let none = none_is (pin_number (clock_key v)) (number_none v) in
      rw y (ap (λ (o : Option ℕ). pinned_by o (spelled (clock_at p.clock at) v) ++ pinned (clock_entries p at keys vs)) none ∙ pinned_clocks p at keys vs)
  | inr n ↦ rw n (pinned_clocks p at keys vs)
]

-- ---- all of them, in order

module _ (p : ProblemParts) (at : List ℕ) (s : Suits p at) (pins k : ℕ) (keys : List Variable) (room : k + needs_in p.signals ≤ 2 ^ 64) (es prefix : List Entry) (below : Each (IsBelow k) es)
    (near : NearAll (flat_map (changed p at pins) es) prefix) where
  pub old_pins : Placed
  old_pins = inserted [] (pinned es)

  pub new_pins : Placed
  new_pins = inserted [] (pinned prefix)

  pub pins_follow : Along (Follows p at) old_pins new_pins
  unfolding old_pins new_pins
  pins_follow = along_inserted (Follows p at) [] [] (pinned es) (pinned prefix) tt (along_pinned p at s pins es prefix near)

  pinned_more : pinned (appended_entries p at k keys) ≡ need_pins p.tables k p.signals (uses_of p at)
  pinned_more =
      pinned_append (need_entries p.tables k p.signals (uses_of p at)) (clock_entries p at keys variables)
      ∙ ap (λ (x : Placed). pinned (need_entries p.tables k p.signals (uses_of p at)) ++ x) (pinned_clocks p at keys variables) ∙ append-nil (pinned (need_entries p.tables k p.signals (uses_of p at)))
      ∙ pinned_needs p.tables s.are p.signals (uses_of p at) k room s.within

  all_below : AllBelow k new_pins
  unfolding new_pins
  all_below = below_inserted k [] (pinned prefix) tt (below_along (Follows p at) k (pinned es) (pinned prefix) (along_pinned p at s pins es prefix near) (below_pinned k es below))

  all_inserted : inserted [] (pinned (prefix ++ appended_entries p at k keys)) ≡ new_pins ++ need_pins p.tables k p.signals (uses_of p at)
  unfolding new_pins
  all_inserted =
      ap (inserted []) (pinned_append prefix (appended_entries p at k keys)) ∙ inserted_append [] (pinned prefix) (pinned (appended_entries p at k keys))
      ∙ ap (inserted (inserted [] (pinned prefix))) pinned_more
      ∙ inserted_behind (inserted [] (pinned prefix)) (need_pins p.tables k p.signals (uses_of p at)) k all_below (rise_needs p.tables k p.signals (uses_of p at))

  abbrev values : Placed → List (List ℕ)
  values es = map (λ (e : ℕ × List ℕ). e.1) es

  pub pins_written : pin_values (prefix ++ appended_entries p at k keys) ≡ values (new_pins ++ need_pins p.tables k p.signals (uses_of p at))
  pins_written = ap values all_inserted

  pub pins_read : pin_values es ≡ values old_pins
  unfolding old_pins
  pins_read = refl
