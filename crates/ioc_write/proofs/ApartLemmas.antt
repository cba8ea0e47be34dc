-- No key stands twice in what is written.
use Rattle.std.proofs.Common.{◌≡◌, ◌≢◌, ℕ, suc, ◌+◌, ◌^◌, ◌<◌, ◌≤◌, ◌&&◌, List, [], ◌∷◌, ◌++◌, length, true, not, Some, None, refl, sym, ap, ◌∙◌, subst, inl, inr, arith}
use Rattle.std.specs.Prelude.{codes, decimal}
use Rattle.std.specs.List.{flat_map}
use Rattle.res_base.specs.Lists.{Each, Member, Pairwise}
use Rattle.res_base.proofs.SumLemmas.{bool_cases}
use Rattle.res_model.specs.PinNames.{place}
use Rattle.res_model.specs.Valid.{ArePins}
use Rattle.res_model.specs.declared.project.Signal.{Signal}
use Rattle.res_model.specs.declared.table.PinUse.{PinUse}
use Rattle.res_model.specs.declared.table.TableParts.{TableParts}
use Rattle.ioc_text.specs.Lines.{pin_number}
use Rattle.problem.specs.declared.parts.ProblemParts.{ProblemParts}
use Rattle.ioc_lines.specs.Entries.{AreApart, Entry}
use Rattle.ioc_lines.specs.Lines.{pin_part}
use Rattle.ioc_lines.proofs.KeyLemmas.{part_is, parts_same}
use Rattle.ioc_write.specs.Reading.{changed}
use Rattle.ioc_write.specs.WriteBack.{clock_key, fate_named, fate_of, has_variable, is_away, pin_name, uses_of, variable_of}
use Rattle.ioc_write.specs.declared.fate.Fate.TheVariants as fate
use Rattle.ioc_write.specs.declared.variable.Variable.{Variable}
use Rattle.ioc_write.specs.declared.variable.Variable.TheVariants as variable
use Rattle.ioc_write.proofs.AppendLemmas.{clock_entries, need_entries, needs_in, number_of_key, pin_key, signal_key}
use Rattle.ioc_write.proofs.ChangeLemmas.{Becomes, BecomesOne, IsSet, becomes, fate_of_name, by_kept, key_moves, by_moved, is_nothing, is_one, by_same}
use Rattle.ioc_write.proofs.MoveLemmas.{Move, UsesApart, kept_home, moves, one_home}
use Rattle.ioc_write.proofs.PinNames.{begins_with_p, name_place}
use Rattle.ioc_write.proofs.TextBack.{NearAll}

-- ---- lists of entries

abbrev pub FarFrom : List ℕ → List Entry → Type 0
FarFrom key es = Each (λ (e : Entry). key ≢ e.0) es

far_append : (key : List ℕ) (xs ys : List Entry) → FarFrom key xs → FarFrom key ys → FarFrom key (xs ++ ys)
far_append key [] ys h k = k
far_append key (x ∷ xs) ys h k = (h.0, far_append key xs ys h.1 k)

pub apart_append : (xs ys : List Entry) → AreApart xs → AreApart ys → Each (λ (y : Entry). FarFrom y.0 xs) ys → AreApart (xs ++ ys)
apart_append [] ys h k c = k
apart_append (x ∷ xs) ys h k c = (far_append x.0 xs ys h.0 (flip ys c), apart_append xs ys h.1 k (more ys c))
  where
    flip : (zs : List Entry) → Each (λ (y : Entry). FarFrom y.0 (x ∷ xs)) zs → FarFrom x.0 zs
    flip [] d = tt
    flip (z ∷ zs) d = ((λ e. d.0.0 (sym e)), flip zs d.1)

    more : (zs : List Entry) → Each (λ (y : Entry). FarFrom y.0 (x ∷ xs)) zs → Each (λ (y : Entry). FarFrom y.0 xs) zs
    more [] d = tt
    more (z ∷ zs) d = (d.0.1, more zs d.1)

pub far_near : (key : List ℕ) (es fs : List Entry) → NearAll es fs → FarFrom key es → FarFrom key fs
far_near key [] [] n h = tt
far_near key [] (f ∷ fs) n h = absurd n
far_near key (e ∷ es) [] n h = absurd n
far_near key (e ∷ es) (f ∷ fs) n h = ((λ q. h.0 (q ∙ sym n.0.0)), far_near key es fs n.1 h.1)

pub apart_near : (es fs : List Entry) → NearAll es fs → AreApart es → AreApart fs
apart_near [] [] n h = tt
apart_near [] (f ∷ fs) n h = absurd n
apart_near (e ∷ es) [] n h = absurd n
apart_near (e ∷ es) (f ∷ fs) n h = (subst (λ (key : List ℕ). FarFrom key fs) n.0.0 (far_near e.0 es fs n.1 h.0), apart_near es fs n.1 h.1)

-- ---- first bytes

pub other_first : (a b : ℕ) (xs ys : List ℕ) → a ∷ xs ≡ b ∷ ys → a ≡ b
other_first a b xs ys e = cc

pub clock_first : (v : Variable) → (bs : List ℕ) × (clock_key v ≡ 82 ∷ bs)
clock_first variable.System = (codes "CC.SYSCLKSource", refl)
clock_first variable.Input = (codes "CC.PLLSourceVirtual", refl)
clock_first variable.Ahb = (codes "CC.AHBCLKDivider", refl)
clock_first variable.P = (codes "CC.PLLP", refl)
clock_first variable.M = (codes "CC.PLLM", refl)
clock_first variable.N = (codes "CC.PLLN", refl)
clock_first variable.Q = (codes "CC.PLLQ", refl)
clock_first variable.Apb1 = (codes "CC.APB1CLKDivider", refl)
clock_first variable.Apb2 = (codes "CC.APB2CLKDivider", refl)

pub pin_first : (k : ℕ) → pin_key k ≡ 77 ∷ (codes "cu.Pin" ++ decimal k)
pin_first k = refl

pub variable_of_key : (v : Variable) → variable_of (clock_key v) ≡ Some v
unfolding variable_of
variable_of_key variable.System = refl
variable_of_key variable.Input = refl
variable_of_key variable.Ahb = refl
variable_of_key variable.P = refl
variable_of_key variable.M = refl
variable_of_key variable.N = refl
variable_of_key variable.Q = refl
variable_of_key variable.Apb1 = refl
variable_of_key variable.Apb2 = refl

pub same_variable : (v w : Variable) → clock_key v ≡ clock_key w → v ≡ w
same_variable v w e = let f : Some v ≡ Some w = sym (variable_of_key v) ∙ ap variable_of e ∙ variable_of_key w in cc

some_number : (a b : ℕ) → Some a ≡ Some b → a ≡ b
some_number a b e = cc

-- ---- what is appended stays apart from itself

module _ (t : TableParts) (are : ArePins t.pins) where
  pub signal_first : (q : ℕ) → q < length t.pins → (bs : List ℕ) × (signal_key (pin_name t q) ≡ 80 ∷ bs)
  signal_first q l = let b = begins_with_p t are q l in (b.0 ++ codes ".Signal", ap (λ (x : List ℕ). x ++ codes ".Signal") b.1)

  pub same_signal : (q r : ℕ) → q < length t.pins → r < length t.pins → signal_key (pin_name t q) ≡ signal_key (pin_name t r) → q ≡ r
  same_signal q r l m e =
      let parts = parts_same (pin_name t q) (codes "Signal") (pin_name t r) (codes "Signal") refl refl e in
      some_number q r (sym (name_place t are q l) ∙ ap (place t.pins) parts.0 ∙ name_place t are r m)

  pin_not_signal : (k q : ℕ) → q < length t.pins → pin_key k ≡ signal_key (pin_name t q) → ⊥
  pin_not_signal k q l e =
      let b = signal_first q l in
      let f : ◌≡◌ {A = ℕ} 77 80 = other_first 77 80 (codes "cu.Pin" ++ decimal k) b.0 (e ∙ b.1) in
      absurd (omega (arith, f))

  abbrev pub AllWithin : List PinUse → Type 0
  AllWithin us = Each (λ (u : PinUse). u.pin < length t.pins) us

  far_pin : (j : ℕ) (ss : List Signal) (us : List PinUse) (k : ℕ) → j < k → k + needs_in ss ≤ 2 ^ 64 → AllWithin us → FarFrom (pin_key j) (need_entries t k ss us)
  far_pin j [] us k l room h = tt
  far_pin j (s ∷ ss) [] k l room h = tt
  far_pin j (s ∷ ss) (u ∷ us) k l room h = elim (bool_cases s.need) [
    | inl y ↦
        let more : k + suc (needs_in ss) ≤ 2 ^ 64 = rw y at room in
        let differ : pin_key j ≢ pin_key k = (λ e. (let f : Some j ≡ Some k = sym (number_of_key j (omega (arith, more, l))) ∙ ap pin_number e ∙ number_of_key k (omega (arith, more)) in
        let g = some_number j k f in omega (arith, g, l))) in
        rw y (differ, ((λ e. pin_not_signal j u.pin h.0 e), far_pin j ss us (k + 1) (omega (arith, l)) (omega (arith, more)) h.1))
    | inr n ↦ let more : k + needs_in ss ≤ 2 ^ 64 = rw n at room in rw n (far_pin j ss us k l more h.1)
  ]

  far_signal : (q : ℕ) (ss : List Signal) (us : List PinUse) (k : ℕ) → q < length t.pins → AllWithin us → Each (λ (u : PinUse). (q ≡ u.pin) → ⊥) us → FarFrom (signal_key (pin_name t q)) (need_entries t k ss us)
  far_signal q [] us k l h d = tt
  far_signal q (s ∷ ss) [] k l h d = tt
  far_signal q (s ∷ ss) (u ∷ us) k l h d = elim (bool_cases s.need) [
    | inl y ↦ rw y ((λ e. pin_not_signal k q l (sym e)), ((λ e. d.0 (same_signal q u.pin l h.0 e)), far_signal q ss us (k + 1) l h.1 d.1))
    | inr n ↦ rw n (far_signal q ss us k l h.1 d.1)
  ]

  pub needs_apart : (ss : List Signal) (us : List PinUse) (k : ℕ) → k + needs_in ss ≤ 2 ^ 64 → AllWithin us → Pairwise UsesApart us → AreApart (need_entries t k ss us)
  needs_apart [] us k room h d = tt
  needs_apart (s ∷ ss) [] k room h d = tt
  needs_apart (s ∷ ss) (u ∷ us) k room h d = elim (bool_cases s.need) [
    | inl y ↦
        let more : k + suc (needs_in ss) ≤ 2 ^ 64 = rw y at room in
        rw y (
          ((λ e. pin_not_signal k u.pin h.0 e), far_pin k ss us (k + 1) (omega arith) (omega (arith, more)) h.1),
          (far_signal u.pin ss us (k + 1) h.0 h.1 d.0, needs_apart ss us (k + 1) (omega (arith, more)) h.1 d.1),
        )
    | inr n ↦ let more : k + needs_in ss ≤ 2 ^ 64 = rw n at room in rw n (needs_apart ss us k more h.1 d.1)
  ]

  -- a key of a clock variable is none of them
  pub far_clock : (v : Variable) (ss : List Signal) (us : List PinUse) (k : ℕ) → AllWithin us → FarFrom (clock_key v) (need_entries t k ss us)
  far_clock v [] us k h = tt
  far_clock v (s ∷ ss) [] k h = tt
  far_clock v (s ∷ ss) (u ∷ us) k h = elim (bool_cases s.need) [
    | inl y ↦
        let a = clock_first v in
        let b = signal_first u.pin h.0 in
        rw y (
          (λ e. (let f : ◌≡◌ {A = ℕ} 82 77 = other_first 82 77 a.0 (codes "cu.Pin" ++ decimal k) (sym a.1 ∙ e) in omega (arith, f))),
          ((λ e. (let f : ◌≡◌ {A = ℕ} 82 80 = other_first 82 80 a.0 b.0 (sym a.1 ∙ e ∙ b.1) in omega (arith, f))), far_clock v ss us (k + 1) h.1),
        )
    | inr n ↦ rw n (far_clock v ss us k h.1)
  ]

module _ (p : ProblemParts) (at : List ℕ) (keys : List Variable) where
  far_clocks : (v : Variable) (vs : List Variable) → Each (λ (w : Variable). v ≢ w) vs → FarFrom (clock_key v) (clock_entries p at keys vs)
  far_clocks v [] d = tt
  far_clocks v (w ∷ vs) d = elim (bool_cases (is_away p at w && not (has_variable keys w))) [
    | inl y ↦ rw y ((λ e. d.0 (same_variable v w e)), far_clocks v vs d.1)
    | inr n ↦ rw n (far_clocks v vs d.1)
  ]

  pub clocks_apart : (vs : List Variable) → Pairwise (λ (v w : Variable). v ≢ w) vs → AreApart (clock_entries p at keys vs)
  clocks_apart [] d = tt
  clocks_apart (v ∷ vs) d = elim (bool_cases (is_away p at v && not (has_variable keys v))) [
    | inl y ↦ rw y (far_clocks v vs d.0, clocks_apart vs d.1)
    | inr n ↦ rw n (clocks_apart vs d.1)
  ]

  -- what is far from the keys of all variables that are appended is far from what is appended
  pub all_clocks : (P : List ℕ → Type 0) (vs : List Variable) → ((v : Variable) → is_away p at v && not (has_variable keys v) ≡ true → P (clock_key v)) → Each (λ (e : Entry). P e.0) (clock_entries p at keys vs)
  all_clocks P [] f = tt
  all_clocks P (v ∷ vs) f = elim (bool_cases (is_away p at v && not (has_variable keys v))) [
    | inl y ↦ rw y (f v y, all_clocks P vs f)
    | inr n ↦ rw n (all_clocks P vs f)
  ]

-- ---- what is appended stays apart from what was there

module _ (p : ProblemParts) (at : List ℕ) (set : IsSet p at) (pins : ℕ) where
  -- a key that no entry's key becomes
  abbrev pub NotReached : List Entry → List ℕ → Type 0
  NotReached es key = Each (λ (e : Entry). Becomes p at e.0 key → ⊥) es

  far_one : (e : Entry) (fs : List Entry) (key : List ℕ) → BecomesOne p at e fs → (Becomes p at e.0 key → ⊥) → FarFrom key fs
  far_one e fs key (is_nothing q) n = subst (FarFrom key) (sym q) tt
  far_one e fs key (is_one f q b) n = subst (FarFrom key) (sym q) ((λ same. n (subst (Becomes p at e.0) (sym same) b)), tt)

  pub far_changed : (es : List Entry) (key : List ℕ) → NotReached es key → FarFrom key (flat_map (changed p at pins) es)
  far_changed [] key h = tt
  far_changed (e ∷ es) key h = far_append key (changed p at pins e) (flat_map (changed p at pins) es) (far_one e (changed p at pins e) key (becomes p at pins e) h.0) (far_changed es key h.1)

  -- a key that begins with another byte than P is reached from itself alone
  pub only_itself : (key next : List ℕ) (b : ℕ) (bs : List ℕ) → next ≡ b ∷ bs → (b ≡ 80 → ⊥) → Becomes p at key next → next ≡ key
  only_itself key next b bs e d (by_same q s) = q
  only_itself key next b bs e d (by_kept q k) = q
  only_itself key next b bs e d (by_moved r f q) =
      let m = key_moves p at set key next r f q in
      absurd (d (other_first b 80 bs m.begins.0 (sym e ∙ m.begins.1)))

  -- the key of a need's signal is reached from none
  pub no_signal_key : (key : List ℕ) (m : Move) → Member m (moves p.signals (uses_of p at)) → m.0.home ≡ None → m.1.pin < length p.tables.pins → Becomes p at key (signal_key (pin_name p.tables m.1.pin)) → ⊥
  no_signal_key key m i none l (by_same q s) =
      let b = signal_first p.tables set.are m.1.pin l in
      s b.0 (sym q ∙ b.1)
  no_signal_key key m i none l (by_kept q k) =
      let part : pin_part key ≡ pin_name p.tables m.1.pin = ap pin_part (sym q) ∙ part_is (pin_name p.tables m.1.pin) (codes "Signal") refl in
      let stays : fate_of p.signals (uses_of p at) m.1.pin ≡ fate.Kept = sym (fate_of_name p at set m.1.pin l) ∙ ap (fate_named p at) (sym part) ∙ k in
      let home : m.0.home ≡ Some m.1.pin = kept_home p.signals (uses_of p at) set.pins set.homes m.1.pin m i refl stays in
      let f : None ≡ Some m.1.pin = sym none ∙ home in
      absurd cc
  no_signal_key key m i none l (by_moved r f q) =
      let x = key_moves p at set key (signal_key (pin_name p.tables m.1.pin)) r f q in
      let parts = parts_same (pin_name p.tables r) x.dots.rest (pin_name p.tables m.1.pin) (codes "Signal") x.dots.none refl (sym x.is) in
      let pin : r ≡ m.1.pin = some_number r m.1.pin (sym (name_place p.tables set.are r x.inside) ∙ ap (place p.tables.pins) parts.0 ∙ name_place p.tables set.are m.1.pin l) in
      let g = x.moving.goes in
      let home = one_home p.signals (uses_of p at) set.pins set.homes g.move m g.member i (g.goes ∙ pin) in
      let f : Some x.moving.home ≡ None = sym g.home ∙ home ∙ none in
      absurd cc
