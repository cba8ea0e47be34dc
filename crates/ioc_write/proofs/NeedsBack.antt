-- Each need is put at its pin in the choice by the lines that are appended.
use Rattle.std.proofs.Common.{◌≡◌, ◌≢◌, ℕ, ◌+◌, ◌^◌, ◌<◌, ◌≤◌, List, [], ◌∷◌, ◌++◌, length, map, true, false, Option, Some, None, refl, sym, ap, ◌∙◌, inl, inr, arith}
use Rattle.std.specs.Prelude.{codes}
use Rattle.std.specs.List.{flat_map}
use Rattle.res_base.specs.Lists.{Member}
use Rattle.res_base.proofs.ListLemmas.{member_left}
use Rattle.res_base.proofs.SumLemmas.{bool_cases}
use Rattle.res_model.specs.PinNames.{place}
use Rattle.res_model.specs.Signals.{signal_named}
use Rattle.res_model.specs.Values.{values_of}
use Rattle.res_model.specs.declared.project.Pull.TheVariants.{None as NoPull}
use Rattle.res_model.specs.declared.project.Signal.{Signal}
use Rattle.res_model.specs.declared.project.Speed.TheVariants.{Low}
use Rattle.res_model.specs.declared.table.PinUse.{PinUse}
use Rattle.res_model.specs.declared.table.TableParts.{TableParts}
use Rattle.res_model.specs.declared.table.TableSignal.{TableSignal}
use Rattle.ioc_text.specs.Lines.{line_at}
use Rattle.ioc_text.specs.declared.line.Line.{Line}
use Rattle.ioc_project.specs.Project.{is_misplaced, is_virtual, known_signal, pull_of, speed_of, truth_of}
use Rattle.problem.specs.declared.parts.ProblemParts.{ProblemParts}
use Rattle.ioc_lines.specs.Entries.{AreApart, Entry, entry_on, lookup, value_of}
use Rattle.ioc_lines.specs.Lines.{last_dot, pin_part}
use Rattle.ioc_lines.specs.Standing.{IsGiven, Puts}
use Rattle.ioc_lines.proofs.KeyLemmas.{part_is, parts_same}
use Rattle.ioc_lines.proofs.LookupLemmas.{line_value}
use Rattle.ioc_write.specs.Reading.{changed}
use Rattle.ioc_write.specs.WriteBack.{fate_named, fate_of, pin_name, uses_of, variables}
use Rattle.ioc_write.specs.declared.fate.Fate.TheVariants as fate
use Rattle.ioc_write.specs.declared.variable.Variable.{Variable}
use Rattle.ioc_write.proofs.AppendLemmas.{clock_entries, need_entries, needs_in, signal_key}
use Rattle.ioc_write.proofs.ApartLemmas.{FarFrom, all_clocks, clock_first, other_first, pin_first}
use Rattle.ioc_write.proofs.ChangeLemmas.{Becomes, IsSet, fate_of_name, key_moves, by_kept, by_moved, by_same}
use Rattle.ioc_write.proofs.LookBack.{lookup_added, nowhere}
use Rattle.ioc_write.proofs.MoveLemmas.{Move, kept_home, moves, one_home}
use Rattle.ioc_write.proofs.OutLemmas.{Suits, all_needs, appended_entries, inside_moves, need_moves, set_of}
use Rattle.ioc_write.proofs.PinNames.{begins_with_p, name_place}
use Rattle.ioc_write.proofs.SignalsBack.{as_absent, can_by, fits_there, name_is, not_virtual, place_same, some_same}
use Rattle.ioc_write.proofs.TextBack.{NearAll}

-- the lines of a need are appended
need_entry : (t : TableParts) (ss : List Signal) (us : List PinUse) (k : ℕ) (m : Move) → Member m (moves ss us) → m.0.need ≡ true → Member (signal_key (pin_name t m.1.pin), m.0.name) (need_entries t k ss us)
need_entry t [] us k m i y = absurd i
need_entry t (s ∷ ss) [] k m i y = absurd i
need_entry t (s ∷ ss) (u ∷ us) k m (inl e) y =
    let n : s.need ≡ true = ap (λ (x : Move). x.0.need) (sym e) ∙ y in
    rw n (inr (inl (ap (λ (x : Move). (signal_key (pin_name t x.1.pin), x.0.name)) e)))
need_entry t (s ∷ ss) (u ∷ us) k m (inr i) y = elim (bool_cases s.need) [
  | inl n ↦ rw n (inr (inr (need_entry t ss us (k + 1) m i y)))
  | inr n ↦ rw n (need_entry t ss us k m i y)
]

-- a line with a signal's name gives it
given_of : (t : TableParts) (o : Option Line) (name : List ℕ) (q : ℕ) (x : TableSignal) → value_of o ≡ Some name → signal_named t name ≡ Some x → is_misplaced x q ≡ false → IsGiven t o q name
given_of t None name q x e n f = absurd cc
given_of t (Some l) name q x e n f =
    let is : l.value ≡ name = cc in
    record {
      signal = Some (l.number, x);
      reads = ap (known_signal l.number) (ap (signal_named t) is ∙ n);
      named = name_is t name x n;
      can = can_by q (Some (l.number, x)) (λ z g. (let same : z ≡ x = cc in ap (λ (y : TableSignal). is_misplaced y q) same ∙ f));
    }

module _ (p : ProblemParts) (at : List ℕ) (s : Suits p at) (pins k : ℕ) (keys : List Variable) (room : k + needs_in p.signals ≤ 2 ^ 64) (es prefix : List Entry) (apart : AreApart es)
    (near : NearAll (flat_map (changed p at pins) es) prefix) (all : AreApart (prefix ++ appended_entries p at k keys)) (back : List Line) (after_is : map entry_on back ≡ prefix ++ appended_entries p at k keys)
    (m : Move) (i : Member m (moves p.signals (uses_of p at))) (need : m.0.need ≡ true) where
  abbrev set : IsSet p at
  set = set_of p at s

  inside : m.1.pin < length p.tables.pins
  inside = inside_moves (length p.tables.pins) p.signals (uses_of p at) m s.within i

  first : (bs : List ℕ) × (pin_name p.tables m.1.pin ≡ 80 ∷ bs)
  first = begins_with_p p.tables s.are m.1.pin inside

  no_home : m.0.home ≡ None
  no_home = (need_moves p.signals (uses_of p at) m s.needs i).1 need

  abbrev new : List ℕ → List ℕ
  new x = pin_name p.tables m.1.pin ++ 46 ∷ x

  not_reached : (x : List ℕ) → last_dot x ≡ None → (e : Entry) → Member e es → Becomes p at e.0 (new x) → ⊥
  not_reached x dotless e j (by_same q special) = special (first.0 ++ 46 ∷ x) (sym q ∙ ap (λ (n : List ℕ). n ++ 46 ∷ x) first.1)
  not_reached x dotless e j (by_kept q f) =
      let part : pin_part e.0 ≡ pin_name p.tables m.1.pin = ap pin_part (sym q) ∙ part_is (pin_name p.tables m.1.pin) x dotless in
      let stays : fate_of p.signals (uses_of p at) m.1.pin ≡ fate.Kept = sym (fate_of_name p at set m.1.pin inside) ∙ ap (fate_named p at) (sym part) ∙ f in
      let home : m.0.home ≡ Some m.1.pin = kept_home p.signals (uses_of p at) set.pins set.homes m.1.pin m i refl stays in
      let g : None ≡ Some m.1.pin = sym no_home ∙ home in
      absurd cc
  not_reached x dotless e j (by_moved r f q) =
      let n = key_moves p at set e.0 (new x) r f q in
      let parts = parts_same (pin_name p.tables r) n.dots.rest (pin_name p.tables m.1.pin) x n.dots.none dotless (sym n.is) in
      let pin : r ≡ m.1.pin = some_same r m.1.pin (sym (name_place p.tables s.are r n.inside) ∙ ap (place p.tables.pins) parts.0 ∙ name_place p.tables s.are m.1.pin inside) in
      let g = n.moving.goes in
      let home = one_home p.signals (uses_of p at) set.pins set.homes g.move m g.member i (g.goes ∙ pin) in
      let f : Some n.moving.home ≡ None = sym g.home ∙ home ∙ no_home in
      absurd cc

  far_both : (key : List ℕ) (xs ys : List Entry) → FarFrom key xs → FarFrom key ys → FarFrom key (xs ++ ys)
  far_both key [] ys h g = g
  far_both key (x ∷ xs) ys h g = (h.0, far_both key xs ys h.1 g)

  far_need : (x : List ℕ) → last_dot x ≡ None → x ≢ codes "Signal" → FarFrom (new x) (appended_entries p at k keys)
  far_need x dotless other = far_both (new x) (need_entries p.tables k p.signals (uses_of p at)) (clock_entries p at keys variables)
      (all_needs p.tables (λ (key : List ℕ). new x ≢ key) p.signals (uses_of p at) k
      (λ j l b e. (let f : ◌≡◌ {A = ℕ} 80 77 = other_first 80 77 (first.0 ++ 46 ∷ x) _ (sym (ap (λ (n : List ℕ). n ++ 46 ∷ x) first.1) ∙ e ∙ pin_first j) in omega (arith, f)))
      (λ n j y e. other (parts_same (pin_name p.tables m.1.pin) x (pin_name p.tables n.1.pin) (codes "Signal") dotless refl e).1) room)
      (all_clocks p at keys (λ (key : List ℕ). new x ≢ key) variables
      (λ v y e. (let c = clock_first v in let f : ◌≡◌ {A = ℕ} 80 82 = other_first 80 82 (first.0 ++ 46 ∷ x) c.0 (sym (ap (λ (n : List ℕ). n ++ 46 ∷ x) first.1) ∙ e ∙ c.1) in omega (arith, f))))

  no_value : (x : List ℕ) → last_dot x ≡ None → x ≢ codes "Signal" → value_of (line_at back (new x)) ≡ None
  no_value x dotless other =
      line_value back (new x) ∙ ap (λ (l : List Entry). lookup l (new x)) after_is
      ∙ nowhere p at set pins es prefix (appended_entries p at k keys) apart near all (new x) (not_reached x dotless) (far_need x dotless other)

  signal_value : value_of (line_at back (new (codes "Signal"))) ≡ Some m.0.name
  signal_value =
      line_value back (new (codes "Signal")) ∙ ap (λ (l : List Entry). lookup l (new (codes "Signal"))) after_is
      ∙ lookup_added p at set pins es prefix (appended_entries p at k keys) apart near all (new (codes "Signal")) m.0.name
      (member_left (new (codes "Signal"), m.0.name) (need_entries p.tables k p.signals (uses_of p at)) (clock_entries p at keys variables) (need_entry p.tables p.signals (uses_of p at) k m i need))

  differ : (a b : ℕ) (xs ys : List ℕ) → a ∷ xs ≡ b ∷ ys → a ≡ b
  differ a b xs ys e = cc

  pub puts_need : (x : TableSignal) → signal_named p.tables m.0.name ≡ Some x → Member m.1 (values_of p.tables m.0) → Puts p.tables back (pin_name p.tables m.1.pin) m.1.pin m.0.name
  puts_need x found chosen = record {
    real = ap is_virtual first.1 ∙ not_virtual first.0;
    there = place_same p.tables (pin_name p.tables m.1.pin) ∙ name_place p.tables s.are m.1.pin inside;
    given = given_of p.tables (line_at back (new (codes "Signal"))) m.0.name m.1.pin x signal_value found (fits_there p.tables m.0 m.1 x chosen found);
    locked = as_absent false truth_of (line_at back (new (codes "Locked"))) (no_value (codes "Locked") refl (λ e. (let f : ◌≡◌ {A = ℕ} 76 83 = differ 76 83 (codes "ocked") (codes "ignal") e in omega (arith, f))));
    pull = as_absent NoPull pull_of (line_at back (new (codes "GPIO_PuPd"))) (no_value (codes "GPIO_PuPd") refl (λ e. (let f : ◌≡◌ {A = ℕ} 71 83 = differ 71 83 (codes "PIO_PuPd") (codes "ignal") e in omega (arith, f))));
    speed = as_absent Low speed_of (line_at back (new (codes "GPIO_Speed"))) (no_value (codes "GPIO_Speed") refl (λ e. (let f : ◌≡◌ {A = ℕ} 71 83 = differ 71 83 (codes "PIO_Speed") (codes "ignal") e in omega (arith, f))));
  }
