-- The lines that are written put each signal, and behind them each need, at its pin in the choice.
use Rattle.std.proofs.Common.{◌≡◌, ℕ, zero, suc, ◌+◌, ◌^◌, ◌<◌, ◌≤◌, ◌==◌, ◌&&◌, ◌||◌, List, [], ◌∷◌, ◌++◌, drop, eqb, length, map, Bool, true, false, cond, Option, Some, None, Result, Ok, Err, refl, sym, ap, ◌∙◌, subst, inl, inr, arith}
use Rattle.std.specs.Prelude.{nat_eq}
use Rattle.std.specs.List.{flat_map}
use Rattle.std.specs.Option.{option_to_list}
use Rattle.std.proofs.lemmas.Bool.Decides.{nat_tests}
use Rattle.std.proofs.lemmas.List.{drop_at, map-append}
use Rattle.res_base.specs.Lists.{Each, Member}
use Rattle.res_base.proofs.SumLemmas.{bool_cases}
use Rattle.choice_rank.specs.Choices.{IsChoice}
use Rattle.choice_rank.specs.declared.variable.VarShape.{VarShape}
use Rattle.res_model.specs.Clock.{IsInRange}
use Rattle.res_model.specs.Placement.{fits, uses_at}
use Rattle.res_model.specs.Signals.{signal_named}
use Rattle.res_model.specs.Valid.{IsValid}
use Rattle.res_model.specs.Values.{pin_values, pin_variables, values_of}
use Rattle.res_model.specs.declared.opts.Opts.{Opts}
use Rattle.res_model.specs.declared.project.Home.{Home}
use Rattle.res_model.specs.declared.project.Signal.{Signal}
use Rattle.res_model.specs.declared.table.PinUse.{PinUse}
use Rattle.res_model.specs.declared.table.TableParts.{TableParts}
use Rattle.res_model.specs.declared.table.TableSignal.{TableSignal}
use Rattle.ioc_text.specs.declared.line.Line.{Line}
use Rattle.ioc_project.specs.Project.{capped, fixes_clock, fixes_signals, is_virtual, known_need, need_of, needs_from, pin_lines}
use Rattle.ioc_project.specs.declared.fault.ProjectFault.{ProjectFault}
use Rattle.ioc_project.specs.declared.fault.ProjectFault.TheVariants.{UnknownNeed}
use Rattle.problem.specs.ClockValues.{clock_at, clock_domains, clock_variables}
use Rattle.problem.specs.Problem.{IsProblem, problem_of}
use Rattle.problem.specs.declared.parts.ProblemParts.{ProblemParts}
use Rattle.ioc_lines.specs.Entries.{AreApart, Entry, Near, entry_on, lines_from}
use Rattle.ioc_lines.specs.Entries as entry
use Rattle.ioc_lines.specs.Lines.{text_lines}
use Rattle.ioc_lines.specs.Standing.{PutAll, Puts, StandAll, Stands}
use Rattle.ioc_lines.proofs.EntryLemmas.{both, same_ok}
use Rattle.ioc_lines.proofs.LookupLemmas.{Along, pins_shown}
use Rattle.ioc_write.specs.Reading.{changed}
use Rattle.ioc_write.specs.ReadsBack.{IsOfText, ReadsBack, places}
use Rattle.ioc_write.specs.WriteBack.{fate_named, pin_name, pins_written, uses_of, written_back}
use Rattle.ioc_write.specs.declared.fate.Fate.{Fate}
use Rattle.ioc_write.specs.declared.fate.Fate.TheVariants as fate
use Rattle.ioc_write.specs.declared.variable.Variable.{Variable}
use Rattle.ioc_write.proofs.AppendLemmas.{needs_in}
use Rattle.ioc_write.proofs.ChangeLemmas.{fate_of_name}
use Rattle.ioc_write.proofs.CleanLemmas.{print_ends}
use Rattle.ioc_write.proofs.KeysOn.{numbers_below}
use Rattle.ioc_write.proofs.LineBack.{name_prints}
use Rattle.ioc_write.proofs.LookBack.{fate_stays, near_value}
use Rattle.ioc_write.proofs.MoveLemmas.{Move, goes_to, moves}
use Rattle.ioc_write.proofs.NeedsBack.{puts_need}
use Rattle.ioc_write.proofs.OrderBack as order
use Rattle.ioc_write.proofs.OrderBack.{Follows, need_pins, renamed}
use Rattle.ioc_write.proofs.OutLemmas.{NeedIs, Suits, appended_entries, inside_moves, set_of}
use Rattle.ioc_write.proofs.PinNames.{get_member, get_some, place_name}
use Rattle.ioc_write.proofs.SignalsBack.{name_is, place_same, puts_moved}
use Rattle.ioc_write.proofs.StepsBack as steps
use Rattle.ioc_write.proofs.TextBack.{NearAll}
use Rattle.problem.proofs.ChoiceUses.{drop_choice}

abbrev Placed : Type 0
Placed = List (ℕ × List ℕ)

abbrev shown : Placed → List (List ℕ)
shown es = map (λ (e : ℕ × List ℕ). e.1) es

-- ---- a virtual pin stays one without a CR at its end

no_false : (a : Bool) → a && false ≡ true → ⊥
no_false true e = absurd cc
no_false false e = absurd cc

and_more : (a b : Bool) → a && b ≡ true → b ≡ true
and_more true b e = e
and_more false b e = absurd cc

virtual_cr : (w : List ℕ) → is_virtual (w ++ 13 ∷ []) ≡ true → is_virtual w ≡ true
virtual_cr [] e = absurd cc
virtual_cr (a ∷ []) e = absurd (no_false (nat_eq 86 a) e)
virtual_cr (a ∷ b ∷ []) e = absurd (no_false (nat_eq 80 b) (and_more (nat_eq 86 a) (nat_eq 80 b && false) e))
virtual_cr (a ∷ b ∷ c ∷ rest) e = e

virtual_near : (v w : List ℕ) → Near v w → is_virtual v ≡ true → is_virtual w ≡ true
virtual_near v w (inl e) y = ap is_virtual (sym e) ∙ y
virtual_near v w (inr e) y = virtual_cr w (ap is_virtual (sym e) ∙ y)

-- ---- what was chosen is a value of its signal

chosen_by : (t : TableParts) (ss : List Signal) (at : List ℕ) → IsChoice (pin_variables t ss) at → Each (λ (m : Move). Member m.1 (values_of t m.0)) (moves ss (uses_at (pin_values t ss) at))
chosen_by t [] [] c = tt
chosen_by t [] (a ∷ bs) c = absurd c
chosen_by t (s ∷ ss) [] c = absurd c
chosen_by t (s ∷ ss) (a ∷ bs) c =
    let u = get_some (values_of t s) a c.0 in
    subst (λ (o : Option PinUse). Each (λ (m : Move). Member m.1 (values_of t m.0)) (moves (s ∷ ss) (option_to_list o ++ uses_at (pin_values t ss) bs))) (sym u.1)
    (get_member (values_of t s) a u.0 u.1, chosen_by t ss bs c.1)

long_variables : (fixed : Bool) (n : ℕ) (ds : List (List ℕ)) (hs : List Home) → length ds ≡ n → length hs ≡ n → length (clock_variables fixed ds hs) ≡ n
long_variables fixed n [] hs e f = e
long_variables fixed zero (d ∷ ds) hs e f = absurd (omega (arith, e))
long_variables fixed (suc n) (d ∷ ds) [] e f = absurd (omega (arith, f))
long_variables fixed (suc n) (d ∷ ds) (h ∷ hs) e f = ap suc (long_variables fixed n ds hs (omega (arith, e)) (omega (arith, f)))

-- ---- needs

record IsNeed (t : TableParts) (s : Signal) : Type 0 where
  need : s.need ≡ true
  signal : TableSignal
  found : signal_named t s.name ≡ Some signal

need_by : (t : TableParts) (n : ℕ) (name : List ℕ) (o : Option TableSignal) (s : Signal) → signal_named t name ≡ o → known_need n o ≡ Ok s → IsNeed t s
need_by t n name None s q e = absurd cc
need_by t n name (Some x) s q e = elim (bool_cases (eqb (length x.at) 0)) [
  | inl y ↦ let f : (let r : Result Signal ProjectFault = Err (UnknownNeed (capped n)) in r) ≡ Ok s = rw y at e in absurd cc
  | inr m ↦
      let f = rw m at e in
      let is = same_ok _ s f in
      let named : x.name ≡ s.name = ap (λ (z : Signal). z.name) is in
      record {
        need = ap (λ (z : Signal). z.need) (sym is);
        signal = x;
        found = ap (signal_named t) (sym named ∙ name_is t name x q) ∙ q;
      }
]

are_needs : (t : TableParts) (n : ℕ) (names : List (List ℕ)) (needs : List Signal) → needs_from t n names ≡ Ok needs → Each (IsNeed t) needs
unfolding need_of
are_needs t n [] needs e = subst (Each (IsNeed t)) (same_ok [] needs e) tt
are_needs t n (name ∷ names) needs e =
    let one = both (need_of t n name) _ needs e in
    let more = both (needs_from t (n + 1) names) _ needs one.2 in
    subst (Each (IsNeed t)) (same_ok (one.0 ∷ more.0) needs more.2) (need_by t n name (signal_named t name) one.0 refl one.1, are_needs t (n + 1) names more.0 more.1)

-- signals that stood are no needs
not_need : (s : Signal) (h : ℕ) → NeedIs s → s.home ≡ Some h → s.need ≡ false
not_need s h n e = elim (bool_cases s.need) [
  | inl y ↦ let f : None ≡ Some h = sym (n.1 y) ∙ e in absurd cc
  | inr f ↦ f
]

stood_false : (t : TableParts) (ioc : List Line) (kept : Bool) (vs : List (List ℕ)) (ss : List Signal) → StandAll t ioc kept vs ss → Each NeedIs ss → Each (λ (s : Signal). s.need ≡ false) ss
stood_false t ioc kept [] [] h n = tt
stood_false t ioc kept [] (s ∷ ss) h n = absurd h
stood_false t ioc kept (v ∷ vs) [] h n = tt
stood_false t ioc kept (v ∷ vs) (s ∷ ss) (inl h) n = stood_false t ioc kept vs (s ∷ ss) h.1 n
stood_false t ioc kept (v ∷ vs) (s ∷ ss) (inr h) n = (not_need s h.0.home n.0 h.0.at_home, stood_false t ioc kept vs ss h.1 n.1)

need_skip : (t : TableParts) (k : ℕ) (ss needs : List Signal) (us : List PinUse) → Each (λ (s : Signal). s.need ≡ false) ss → length us ≡ length (ss ++ needs) → need_pins t k (ss ++ needs) us ≡ need_pins t k needs (drop (length ss) us)
need_skip t k [] needs us h l = refl
need_skip t k (s ∷ ss) needs [] h l = absurd (omega (arith, l))
need_skip t k (s ∷ ss) needs (u ∷ us) h l = rw h.0 (need_skip t k ss needs us h.1 (omega (arith, l)))

each_prefix : {X : Type 0} (P : X → Type 0) (xs ys : List X) → Each P (xs ++ ys) → Each P xs
each_prefix P [] ys h = tt
each_prefix P (x ∷ xs) ys h = (h.0, each_prefix P xs ys h.1)

-- ---- the whole

module _ (p : ProblemParts) (at : List ℕ) (s : Suits p at) (valid : IsValid p.tables) (pins k : ℕ) (keys : List Variable) (room : k + needs_in p.signals ≤ 2 ^ 64) (es prefix : List Entry) (apart : AreApart es)
    (near : NearAll (flat_map (changed p at pins) es) prefix) (all : AreApart (prefix ++ appended_entries p at k keys)) (ioc back : List Line) (before_is : map entry_on ioc ≡ es) (after_is : map entry_on back ≡ prefix ++ appended_entries p at k keys) (kept : Bool) where
  -- a move of the choice
  abbrev IsMove : Move → Type 0
  IsMove m = Member m (moves p.signals (uses_of p at)) × Member m.1 (values_of p.tables m.0)

  virtual_put : (w : List ℕ) (ws : List (List ℕ)) (ps : List (ℕ × List ℕ)) → is_virtual w ≡ true → PutAll p.tables back ws ps → PutAll p.tables back (w ∷ ws) ps
  virtual_put w ws [] y h = (y, h)
  virtual_put w ws (x ∷ ps) y h = inl (y, h)

  virtual_stays : (v w : List ℕ) → is_virtual v ≡ true → Follows p at v w → is_virtual w ≡ true
  virtual_stays v w y f =
      let stays : fate_named p at v ≡ fate.Kept = fate_stays p at (set_of p at s) pins es prefix (appended_entries p at k keys) apart near all v
      (λ bs e. (let off : is_virtual v ≡ false = ap is_virtual e in absurd cc)) in
      virtual_near v w (subst (λ (x : Fate). Near (renamed p.tables v x) w) stays f) y

  renamed_is : (h q : ℕ) → renamed p.tables (pin_name p.tables h) (cond (q == h) fate.Kept (fate.Moved q)) ≡ pin_name p.tables q
  renamed_is h q = elim (bool_cases (q == h)) [
    | inl y ↦ let same : q ≡ h = grind (arith, nat_tests) in rw y (ap (pin_name p.tables) (sym same))
    | inr n ↦ rw n refl
  ]

  moved_put : (m : Move) (v w : List ℕ) → IsMove m → Stands p.tables ioc kept v m.0 → Follows p at v w → Puts p.tables back w m.1.pin m.0.name
  moved_put m v w is st f =
      let h = st.home in
      let n = place_name p.tables s.are v h (sym (place_same p.tables v) ∙ st.there) in
      let set = set_of p at s in
      let goes : fate_named p at v ≡ cond (m.1.pin == h) fate.Kept (fate.Moved m.1.pin) =
      ap (fate_named p at) (sym n.0) ∙ fate_of_name p at set h n.1 ∙ goes_to p.signals (uses_of p at) set.pins set.homes m h is.0 st.at_home in
      let there : renamed p.tables v (fate_named p at v) ≡ pin_name p.tables m.1.pin = ap (renamed p.tables v) goes ∙ ap (λ (x : List ℕ). renamed p.tables x (cond (m.1.pin == h) fate.Kept (fate.Moved m.1.pin))) (sym n.0) ∙ renamed_is h m.1.pin in
      let inside = inside_moves (length p.tables.pins) p.signals (uses_of p at) m s.within is.0 in
      let same : pin_name p.tables m.1.pin ≡ w = near_value (pin_name p.tables m.1.pin) w (subst (λ (x : List ℕ). Near x w) there f) (print_ends (pin_name p.tables m.1.pin) (name_prints p at set m.1.pin inside)) in
      let puts = puts_moved p at s valid pins k keys room es prefix apart near all ioc back before_is after_is m is.0 h st.at_home n.1 kept (subst (λ (x : List ℕ). Stands p.tables ioc kept x m.0) (sym n.0) st) is.1 in
      subst (λ (x : List ℕ). Puts p.tables back x m.1.pin m.0.name) same puts

  put_needs : (needs : List Signal) (us : List PinUse) (j : ℕ) → Each (IsNeed p.tables) needs → Each IsMove (moves needs us) → length us ≡ length needs → PutAll p.tables back (shown (need_pins p.tables j needs us)) (places needs us)
  put_needs [] us j h m l = tt
  put_needs (n ∷ ns) [] j h m l = absurd (omega (arith, l))
  put_needs (n ∷ ns) (u ∷ us) j h m l =
      rw h.0.need (inr (puts_need p at s pins k keys room es prefix apart near all back after_is (n, u) m.0.0 h.0.need h.0.signal h.0.found m.0.1, put_needs ns us (j + 1) h.1 m.1 (omega (arith, l))))

  put_all : (old new : Placed) (ss needs : List Signal) (us : List PinUse) (rest : List (List ℕ)) → Along (Follows p at) old new → StandAll p.tables ioc kept (shown old) ss → Each IsMove (moves (ss ++ needs) us) → length us ≡ length (ss ++ needs)
      → PutAll p.tables back rest (places needs (drop (length ss) us)) → PutAll p.tables back (shown new ++ rest) (places (ss ++ needs) us)
  put_all [] [] [] needs us rest a st m l base = base
  put_all [] [] (x ∷ ss) needs us rest a st m l base = absurd st
  put_all [] (b ∷ new) ss needs us rest a st m l base = absurd a
  put_all (o ∷ old) [] ss needs us rest a st m l base = absurd a
  put_all (o ∷ old) (b ∷ new) [] needs us rest a st m l base =
      virtual_put b.1 (shown new ++ rest) (places needs us) (virtual_stays o.1 b.1 st.0 a.0.1) (put_all old new [] needs us rest a.1 st.1 m l base)
  put_all (o ∷ old) (b ∷ new) (x ∷ ss) needs [] rest a st m l base = absurd (omega (arith, l))
  put_all (o ∷ old) (b ∷ new) (x ∷ ss) needs (u ∷ us) rest a (inl st) m l base =
      virtual_put b.1 (shown new ++ rest) (places ((x ∷ ss) ++ needs) (u ∷ us)) (virtual_stays o.1 b.1 st.0 a.0.1) (put_all old new (x ∷ ss) needs (u ∷ us) rest a.1 st.1 m l base)
  put_all (o ∷ old) (b ∷ new) (x ∷ ss) needs (u ∷ us) rest a (inr st) m l base =
      inr (moved_put (x, u) o.1 b.1 m.0 st.0 a.0.1, put_all old new ss needs us rest a.1 st.1 m.1 (omega (arith, l)) base)

moves_each : (P Q : Move → Type 0) (ms : List Move) → Each P ms → ((m : Move) → Member m ms → P m → Q m) → Each Q ms
moves_each P Q [] h f = tt
moves_each P Q (m ∷ ms) h f = (f m (inl refl) h.0, moves_each P Q ms h.1 (λ n i p. f n (inr i) p))

moves_drop : (ss needs : List Signal) (us : List PinUse) (P : Move → Type 0) → Each P (moves (ss ++ needs) us) → length us ≡ length (ss ++ needs) → Each P (moves needs (drop (length ss) us)) × (length (drop (length ss) us) ≡ length needs)
moves_drop [] needs us P h l = (h, l)
moves_drop (s ∷ ss) needs [] P h l = absurd (omega (arith, l))
moves_drop (s ∷ ss) needs (u ∷ us) P h l = moves_drop ss needs us P h.1 (omega (arith, l))

module _ (text : List ℕ) (opts : Opts) (p : ProblemParts) (at out : List ℕ) (valid : IsValid p.tables) (agree : IsProblem p) (choice : IsChoice p.shape at) (fit : fits p.tables (uses_of p at) ≡ true)
    (range : IsInRange (clock_at p.clock at)) (few : pins_written p (text_lines text) < 2 ^ 64) (i : IsOfText text opts p) (wrote : written_back text p at ≡ Ok out) where
  s : Suits p at
  s = steps.s text opts p at out valid agree choice fit range few i wrote

  uses_are : p.uses ≡ pin_values p.tables i.project.signals
  unfolding problem_of
  uses_are = ap (λ (x : ProblemParts). x.uses) i.is_problem

  signals_are : p.signals ≡ i.project.signals
  unfolding problem_of
  signals_are = ap (λ (x : ProblemParts). x.signals) i.is_problem

  ten : p.first ≡ 10
  ten = steps.first_is text opts p i

  shape : drop p.first p.shape ≡ pin_variables p.tables i.project.signals
  shape =
      let were = steps.were text opts p at out valid agree choice fit range few i wrote in
      let long = long_variables (fixes_clock opts.free) 10 (clock_domains p.tables) i.project.clock (steps.domains_ten text opts p at out valid agree choice fit range few i wrote) were.ten in
      ap (λ (n : ℕ). drop n p.shape) ten ∙ ap (drop 10) (steps.shape_is text opts p at out valid agree choice fit range few i wrote)
      ∙ drop_at (clock_variables (fixes_clock opts.free) (clock_domains p.tables) i.project.clock) (pin_variables p.tables i.project.signals) 10 long

  chosen : Each (λ (m : Move). Member m.1 (values_of p.tables m.0)) (moves p.signals (uses_of p at))
  chosen =
      subst (λ (ss : List Signal). Each (λ (m : Move). Member m.1 (values_of p.tables m.0)) (moves ss (uses_of p at))) (sym signals_are)
      (subst (λ (us : List (List PinUse)). Each (λ (m : Move). Member m.1 (values_of p.tables m.0)) (moves i.project.signals (uses_at us (drop p.first at)))) (sym uses_are)
      (chosen_by p.tables i.project.signals (drop p.first at) (subst (λ (vs : List VarShape). IsChoice vs (drop p.first at)) shape (drop_choice p.first p.shape at choice))))

  pub puts_back : PutAll p.tables (steps.back text opts p at out valid agree choice fit range few i wrote) (map (λ (l : Line). l.value) (pin_lines (steps.back text opts p at out valid agree choice fit range few i wrote))) (places p.signals (uses_of p at))
  puts_back =
      let o = steps.o text opts p at out valid agree choice fit range few i wrote in
      let t = steps.t text opts p at out valid agree choice fit range few i wrote in
      let was = steps.was text opts p at out valid agree choice fit range few i wrote in
      let before = steps.before_is text opts p at out valid agree choice fit range few i wrote in
      let after = steps.after_is text opts p at out valid agree choice fit range few i wrote in
      let k = steps.k text opts p at out valid agree choice fit range few i wrote in
      let keys = steps.keys text opts p at out valid agree choice fit range few i wrote in
      let pins = steps.pins text opts p at out valid agree choice fit range few i wrote in
      let es = steps.es text opts p at out valid agree choice fit range few i wrote in
      let back = steps.back text opts p at out valid agree choice fit range few i wrote in
      let below = numbers_below (text_lines text) in
      let follow = order.pins_follow p at s pins k keys o.room es o.prefix below o.near in
      let old = order.old_pins p at s pins k keys o.room es o.prefix below o.near in
      let new = order.new_pins p at s pins k keys o.room es o.prefix below o.near in
      let kept = was.kept || fixes_signals opts.free in
      let read : map (λ (l : Line). l.value) (pin_lines i.lines) ≡ shown old = pins_shown i.lines ∙ ap entry.pin_values before ∙ order.pins_read p at s pins k keys o.room es o.prefix below o.near in
      let stand : StandAll p.tables i.lines kept (shown old) was.signals = subst (λ (vs : List (List ℕ)). StandAll p.tables i.lines kept vs was.signals) read was.stand in
      let all : p.signals ≡ was.signals ++ was.needs = signals_are ∙ was.all in
      let many = steps.many_uses p at agree choice in
      let long : length (uses_of p at) ≡ length (was.signals ++ was.needs) = many ∙ ap length all in
      let each : Each (IsMove p at s valid pins k keys o.room es o.prefix t.apart o.near o.apart i.lines back before after kept) (moves p.signals (uses_of p at)) = moves_each (λ (m : Move). Member m.1 (values_of p.tables m.0)) (IsMove p at s valid pins k keys o.room es o.prefix t.apart o.near o.apart i.lines back before after kept) (moves p.signals (uses_of p at)) chosen (λ m j c. (j, c)) in
      let each_all = subst (λ (ss : List Signal). Each (IsMove p at s valid pins k keys o.room es o.prefix t.apart o.near o.apart i.lines back before after kept) (moves ss (uses_of p at))) all each in
      let tail = moves_drop was.signals was.needs (uses_of p at) (IsMove p at s valid pins k keys o.room es o.prefix t.apart o.near o.apart i.lines back before after kept) each_all long in
      let texts : Each NeedIs (was.signals ++ was.needs) = subst (Each NeedIs) all s.needs in
      let false_all = stood_false p.tables i.lines kept (shown old) was.signals stand (each_prefix NeedIs was.signals was.needs texts) in
      let skip : need_pins p.tables k p.signals (uses_of p at) ≡ need_pins p.tables k was.needs (drop (length was.signals) (uses_of p at)) = ap (λ (ss : List Signal). need_pins p.tables k ss (uses_of p at)) all ∙ need_skip p.tables k was.signals was.needs (uses_of p at) false_all long in
      let base = put_needs p at s valid pins k keys o.room es o.prefix t.apart o.near o.apart i.lines back before after kept was.needs (drop (length was.signals) (uses_of p at)) k (are_needs p.tables 1 opts.needs was.needs was.needed) tail.0 tail.1 in
      let put = put_all p at s valid pins k keys o.room es o.prefix t.apart o.near o.apart i.lines back before after kept old new was.signals was.needs (uses_of p at) (shown (need_pins p.tables k was.needs (drop (length was.signals) (uses_of p at)))) follow stand each_all long base in
      let written : map (λ (l : Line). l.value) (pin_lines back) ≡ shown new ++ shown (need_pins p.tables k was.needs (drop (length was.signals) (uses_of p at))) =
      pins_shown back ∙ ap entry.pin_values after ∙ order.pins_written p at s pins k keys o.room es o.prefix below o.near ∙ map-append (λ (e : ℕ × List ℕ). e.1) new (need_pins p.tables k p.signals (uses_of p at)) ∙ ap (λ (x : Placed). shown new ++ shown x) skip in
      subst (λ (ss : List Signal). PutAll p.tables back (map (λ (l : Line). l.value) (pin_lines back)) (places ss (uses_of p at))) (sym all)
      (subst (λ (vs : List (List ℕ)). PutAll p.tables back vs (places (was.signals ++ was.needs) (uses_of p at))) (sym written) put)

  -- what is written reads back as the choice
  pub reads_back : ReadsBack out opts p at
  reads_back =
      let o = steps.o text opts p at out valid agree choice fit range few i wrote in
      let back = steps.back text opts p at out valid agree choice fit range few i wrote in
      steps.reads_back text opts p at out valid agree choice fit range few i wrote
      (λ lines e. subst (λ (ls : List Line). PutAll p.tables ls (map (λ (l : Line). l.value) (pin_lines ls)) (places p.signals (uses_of p at))) (same_ok back lines (sym o.reads ∙ e)) puts_back)
