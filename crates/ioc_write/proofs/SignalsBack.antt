-- Each signal is put at its pin in the choice by the lines that are written.
use Rattle.std.proofs.Common.{◌≡◌, ◌≢◌, ℕ, ◌+◌, ◌^◌, ◌<◌, ◌≤◌, ◌==◌, ◌&&◌, ◌||◌, List, [], ◌∷◌, ◌++◌, length, map, filter, Bool, true, false, not, cond, Option, Some, None, Ok, refl, sym, ap, ◌∙◌, subst, inl, inr, arith}
use Rattle.std.specs.Prelude.{codes, find}
use Rattle.std.specs.List.{flat_map, list_any}
use Rattle.std.specs.Str.{bytes_eq}
use Rattle.std.proofs.lemmas.Bool.Decides.{nat_tests}
use Rattle.std.proofs.lemmas.Slice.Eq.{bytes_eq-Decides}
use Rattle.res_base.specs.Lists.{Each, Member}
use Rattle.res_base.proofs.ListLemmas.{member_split}
use Rattle.res_base.proofs.SumLemmas.{bool_cases}
use Rattle.res_model.specs.PinNames.{place}
use Rattle.res_model.specs.Signals.{own_mode, rows_of, signal_named}
use Rattle.res_model.specs.Valid.{IsSignal, IsText, IsValid}
use Rattle.res_model.specs.Values.{is_at, rows_at, rows_elsewhere, values_from, values_of}
use Rattle.res_model.specs.declared.project.Pull.TheVariants.{None as NoPull}
use Rattle.res_model.specs.declared.project.Signal.{Signal}
use Rattle.res_model.specs.declared.project.Speed.TheVariants.{Low}
use Rattle.res_model.specs.declared.table.Mode.{Mode}
use Rattle.res_model.specs.declared.table.PinUse.{PinUse}
use Rattle.res_model.specs.declared.table.TableParts.{TableParts}
use Rattle.res_model.specs.declared.table.TableSignal.{TableSignal}
use Rattle.ioc_text.specs.Lines.{line_at}
use Rattle.ioc_text.specs.declared.line.Line.{Line}
use Rattle.ioc_project.specs.Project.{candidate, is_misplaced, is_virtual, known_signal, name_given, place_of, pull_of, signal_given, speed_of, truth_of, value_or, well_formed}
use Rattle.problem.specs.declared.parts.ProblemParts.{ProblemParts}
use Rattle.ioc_lines.specs.Entries.{AreApart, Entry, entry_on, lookup, value_of}
use Rattle.ioc_lines.specs.Lines.{last_dot}
use Rattle.ioc_lines.specs.Standing.{IsFine, Puts, Stands}
use Rattle.ioc_lines.proofs.EntryLemmas.{same_ok}
use Rattle.ioc_lines.proofs.KeyLemmas.{parts_same}
use Rattle.ioc_lines.proofs.LookupLemmas.{line_value}
use Rattle.ioc_write.specs.Reading.{changed}
use Rattle.ioc_write.specs.WriteBack.{clock_key, pin_name, uses_of, variables}
use Rattle.ioc_write.specs.declared.variable.Variable.{Variable}
use Rattle.ioc_write.proofs.AppendLemmas.{clock_entries, need_entries, needs_in, pin_key, signal_key}
use Rattle.ioc_write.proofs.ApartLemmas.{FarFrom, all_clocks, clock_first, pin_first}
use Rattle.ioc_write.proofs.CleanLemmas.{pull_ends, signal_ends, speed_ends, truth_ends}
use Rattle.ioc_write.proofs.LookBack.{DoesNotEndInCr}
use Rattle.ioc_write.proofs.MoveLemmas.{Move, moves, one_home}
use Rattle.ioc_write.proofs.OutLemmas.{Suits, all_needs, appended_entries, inside_moves, need_moves, set_of}
use Rattle.ioc_write.proofs.PinNames.{begins_with_p, name_place}
use Rattle.ioc_write.proofs.PinsBack.{pin_line_same}
use Rattle.ioc_write.proofs.TextBack.{NearAll}

-- ---- lines of one value mean the same

formed : {X : Type 0} (n m : ℕ) (a b : Option X) (x : X) → a ≡ b → well_formed n a ≡ Ok x → well_formed m b ≡ Ok x
formed n m None None x s e = absurd cc
formed n m None (Some b) x s e = absurd cc
formed n m (Some a) None x s e = absurd cc
formed n m (Some a) (Some b) x s e = let i : b ≡ a = cc in ap Ok i ∙ e

same_value : {X : Type 0} (absent : X) (form : List ℕ → Option X) (o u : Option Line) (x : X) → value_of o ≡ value_of u → value_or absent form o ≡ Ok x → value_or absent form u ≡ Ok x
same_value absent form None None x s e = e
same_value absent form None (Some m) x s e = absurd cc
same_value absent form (Some l) None x s e = absurd cc
same_value absent form (Some l) (Some m) x s e = let v : l.value ≡ m.value = cc in formed l.number m.number (form l.value) (form m.value) x (ap form v) e

pub as_absent : {X : Type 0} (absent : X) (form : List ℕ → Option X) (o : Option Line) → value_of o ≡ None → IsFine (value_or absent form o)
as_absent absent form None e = (absent, refl)
as_absent absent form (Some l) e = absurd cc

formed_as : {X : Type 0} (n : ℕ) (o : Option X) (x : X) → well_formed n o ≡ Ok x → o ≡ Some x
formed_as n None x e = absurd cc
formed_as n (Some y) x e = ap Some (same_ok y x e)

read_as : {X : Type 0} (absent : X) (form : List ℕ → Option X) (o : Option Line) (x : X) (v : List ℕ) → value_or absent form o ≡ Ok x → value_of o ≡ Some v → form v ≡ Some x
read_as absent form None x v e q = absurd cc
read_as absent form (Some l) x v e q = let is : v ≡ l.value = cc in ap form is ∙ formed_as l.number (form l.value) x e

-- ---- signals that lines give

abbrev pub Given : Type 0
Given = Option (ℕ × TableSignal)

abbrev pub signal_in : Given → Option TableSignal
signal_in None = None
signal_in (Some s) = Some s.1

record SameGiven (t : TableParts) (u : Option Line) (g : Given) : Type 0 where
  given : Given
  reads : signal_given t u ≡ Ok given
  named : name_given given ≡ name_given g
  same : signal_in given ≡ signal_in g

known_same : (t : TableParts) (m : Line) (n : ℕ) (found : Option TableSignal) (g : Given) → signal_named t m.value ≡ found → known_signal n found ≡ Ok g → SameGiven t (Some m) g
known_same t m n None g e k = absurd cc
known_same t m n (Some s) g e k =
    let is : Some (n, s) ≡ g = same_ok (Some (n, s)) g k in
    record { given = Some (m.number, s); reads = ap (known_signal m.number) e; named = ap name_given is; same = ap signal_in is }

same_given : (t : TableParts) (o u : Option Line) (g : Given) → value_of o ≡ value_of u → signal_given t o ≡ Ok g → SameGiven t u g
same_given t None None g s e = let is : None ≡ g = same_ok None g e in record { given = None; reads = refl; named = ap name_given is; same = ap signal_in is }
same_given t None (Some m) g s e = absurd cc
same_given t (Some l) None g s e = absurd cc
same_given t (Some l) (Some m) g s e =
    let v : m.value ≡ l.value = cc in
    known_same t m l.number (signal_named t l.value) g (ap (signal_named t) v) e

-- what a line names is a signal of the table
known_as : (n : ℕ) (found : Option TableSignal) (g : Given) → known_signal n found ≡ Ok g → found ≡ signal_in g
known_as n None g e = absurd cc
known_as n (Some s) g e = ap signal_in (same_ok (Some (n, s)) g e)

known_some : (n : ℕ) (found : Option TableSignal) (g : Given) → known_signal n found ≡ Ok g → (s : TableSignal) × (found ≡ Some s)
known_some n None g e = absurd cc
known_some n (Some s) g e = (s, refl)

given_ends : (t : TableParts) → Each (λ (s : TableSignal). IsText s.name) t.signals → (o : Option Line) (g : Given) (v : List ℕ) → signal_given t o ≡ Ok g → value_of o ≡ Some v → DoesNotEndInCr v
given_ends t h None g v e q = absurd cc
given_ends t h (Some l) g v e q =
    let is : l.value ≡ v = cc in
    let s = known_some l.number (signal_named t l.value) g e in
    subst DoesNotEndInCr is (signal_ends t h l.value s.0 s.1)

find_passes : {X : Type 0} (p : X → Bool) (xs : List X) (x : X) → find p xs ≡ Some x → p x ≡ true
find_passes p [] x e = absurd cc
find_passes p (y ∷ ys) x e = elim (bool_cases (p y)) [
  | inl t ↦ let f : Some y ≡ Some x = rw t at e in let is : y ≡ x = cc in subst (λ z. p z ≡ true) is t
  | inr t ↦ let rest : find p ys ≡ Some x = rw t at e in find_passes p ys x rest
]

pub name_is : (t : TableParts) (name : List ℕ) (s : TableSignal) → signal_named t name ≡ Some s → s.name ≡ name
unfolding signal_named
name_is t name s e = (bytes_eq-Decides s.name name).0 (find_passes (λ (u : TableSignal). bytes_eq u.name name) t.signals s e)

given_named : (t : TableParts) (o : Option Line) (g : Given) (x : TableSignal) → signal_given t o ≡ Ok g → signal_in g ≡ Some x → (name_given g ≡ x.name) × (signal_named t x.name ≡ Some x)
given_named t None g x e q = let is : None ≡ signal_in g = ap signal_in (same_ok None g e) in let f : None ≡ Some x = is ∙ q in absurd cc
given_named t (Some l) None x e q = absurd cc
given_named t (Some l) (Some y) x e q =
    let same : y.1 ≡ x = cc in
    let found : signal_named t l.value ≡ Some x = known_as l.number (signal_named t l.value) (Some y) e ∙ ap Some same in
    (ap (λ (z : TableSignal). z.name) same, ap (signal_named t) (name_is t l.value x found) ∙ found)

-- ---- whoever has a row there can be there

pass_member : (u x : PinUse) (rest xs : List PinUse) (b : Bool) → (Member u rest → Member u xs) → Member u (cond b (x ∷ rest) rest) → Member u (x ∷ xs)
pass_member u x rest xs true f (inl e) = inl e
pass_member u x rest xs true f (inr i) = inr (f i)
pass_member u x rest xs false f m = inr (f m)

filter_member : (p : PinUse → Bool) (u : PinUse) (xs : List PinUse) → Member u (filter p xs) → Member u xs
filter_member p u [] m = m
filter_member p u (x ∷ xs) m = pass_member u x (filter p xs) xs (p x) (λ i. filter_member p u xs i) m

any_of : (u : PinUse) (rows : List PinUse) → Member u rows → list_any (λ (w : PinUse). w.pin == u.pin) rows ≡ true
any_of u [] m = absurd m
any_of u (r ∷ rs) (inl e) =
    let same : r.pin ≡ u.pin = ap (λ (w : PinUse). w.pin) (sym e) in
    let yes : (r.pin == u.pin) ≡ true = grind (arith, nat_tests) in
    rw yes refl
any_of u (r ∷ rs) (inr i) = or_right (r.pin == u.pin) (list_any (λ (w : PinUse). w.pin == u.pin) rs) (any_of u rs i)
  where
    or_right : (a b : Bool) → b ≡ true → a || b ≡ true
    or_right true b e = refl
    or_right false b e = e

from_rows : (rows : List PinUse) (own : Option Mode) (locked : Bool) (home : Option ℕ) (u : PinUse) → Member u (values_from rows own locked home) → 0 < length rows → Member u rows
from_rows rows own locked None u m l = m
from_rows [] own locked (Some h) u m l = absurd (omega arith)
from_rows (r ∷ rs) own locked (Some h) u m l = elim (member_split u (rows_at h (r ∷ rs)) (cond locked [] (rows_elsewhere h (r ∷ rs))) m) [
  | inl here ↦ filter_member (is_at h) u (r ∷ rs) here
  | inr there ↦ elsewhere locked there
]
  where
    elsewhere : (b : Bool) → Member u (cond b [] (rows_elsewhere h (r ∷ rs))) → Member u (r ∷ rs)
    elsewhere true i = absurd i
    elsewhere false i = filter_member (λ (w : PinUse). not (is_at h w)) u (r ∷ rs) i

and_false : (b : Bool) → b && false ≡ false
and_false true = refl
and_false false = refl

rows_fit : (rows : List PinUse) (own : Option Mode) (locked : Bool) (home : Option ℕ) (u : PinUse) → Member u (values_from rows own locked home)
    → not (length rows == 0) && not (list_any (λ (w : PinUse). w.pin == u.pin) rows) ≡ false
rows_fit [] own locked home u m = refl
rows_fit (r ∷ rs) own locked home u m =
    let i = from_rows (r ∷ rs) own locked home u m (omega arith) in
    let yes : list_any (λ (w : PinUse). w.pin == u.pin) (r ∷ rs) ≡ true = any_of u (r ∷ rs) i in
    ap (λ (b : Bool). not (length (r ∷ rs) == 0) && not b) yes ∙ and_false (not (length (r ∷ rs) == 0))

pub fits_there : (t : TableParts) (s : Signal) (u : PinUse) (x : TableSignal) → Member u (values_of t s) → signal_named t s.name ≡ Some x → is_misplaced x u.pin ≡ false
unfolding values_of is_misplaced
fits_there t s u x m e =
    let rows : rows_of (signal_named t s.name) ≡ x.at = ap rows_of e in
    rows_fit x.at (own_mode s.name (signal_named t s.name)) s.locked s.home u
    (subst (λ (r : List PinUse). Member u (values_from r (own_mode s.name (signal_named t s.name)) s.locked s.home)) rows m)

pub can_by : (q : ℕ) (g : Given) → ((x : TableSignal) → signal_in g ≡ Some x → is_misplaced x q ≡ false) → (locked : Bool) → candidate locked q g ≡ Ok tt
can_by q None f locked = refl
can_by q (Some s) f locked = let e = f s.1 refl in rw (e, and_false locked) refl

-- ---- a signal that had a home

pub place_same : (t : TableParts) (name : List ℕ) → place_of t name ≡ place t.pins name
unfolding place_of place
place_same t name = refl

pub not_virtual : (bs : List ℕ) → is_virtual (80 ∷ bs) ≡ false
not_virtual bs = refl

pub some_same : (a b : ℕ) → Some a ≡ Some b → a ≡ b
some_same a b e = cc

each_text : (n : ℕ) (ss : List TableSignal) → Each (IsSignal n) ss → Each (λ (s : TableSignal). IsText s.name) ss
each_text n [] h = tt
each_text n (s ∷ ss) h = (h.0.text, each_text n ss h.1)

module _ (p : ProblemParts) (at : List ℕ) (s : Suits p at) (valid : IsValid p.tables) (pins k : ℕ) (keys : List Variable) (room : k + needs_in p.signals ≤ 2 ^ 64) (es prefix : List Entry) (apart : AreApart es)
    (near : NearAll (flat_map (changed p at pins) es) prefix) (all : AreApart (prefix ++ appended_entries p at k keys)) (ioc back : List Line) (before_is : map entry_on ioc ≡ es) (after_is : map entry_on back ≡ prefix ++ appended_entries p at k keys) where
  abbrev more : List Entry
  more = appended_entries p at k keys

  far_both : (key : List ℕ) (xs ys : List Entry) → FarFrom key xs → FarFrom key ys → FarFrom key (xs ++ ys)
  far_both key [] ys h g = g
  far_both key (x ∷ xs) ys h g = (h.0, far_both key xs ys h.1 g)

  other_first : (a b : ℕ) (xs ys : List ℕ) → a ∷ xs ≡ b ∷ ys → a ≡ b
  other_first a b xs ys e = cc

  module _ (m : Move) (i : Member m (moves p.signals (uses_of p at))) where
    abbrev q : ℕ
    q = m.1.pin

    inside : m.1.pin < length p.tables.pins
    inside = inside_moves (length p.tables.pins) p.signals (uses_of p at) m s.within i

    first : (bs : List ℕ) × (pin_name p.tables m.1.pin ≡ 80 ∷ bs)
    first = begins_with_p p.tables s.are m.1.pin inside

    no_need_key : (j : ℕ) (x : List ℕ) → pin_name p.tables m.1.pin ++ 46 ∷ x ≢ pin_key j
    no_need_key j x e = let f : ◌≡◌ {A = ℕ} 80 77 = other_first 80 77 (first.0 ++ 46 ∷ x) _ (sym (ap (λ (n : List ℕ). n ++ 46 ∷ x) first.1) ∙ e ∙ pin_first j) in omega (arith, f)

    no_clock_key : (v : Variable) (x : List ℕ) → pin_name p.tables m.1.pin ++ 46 ∷ x ≢ clock_key v
    no_clock_key v x e = let c = clock_first v in let f : ◌≡◌ {A = ℕ} 80 82 = other_first 80 82 (first.0 ++ 46 ∷ x) c.0 (sym (ap (λ (n : List ℕ). n ++ 46 ∷ x) first.1) ∙ e ∙ c.1) in omega (arith, f)

    module _ (h : ℕ) (home : m.0.home ≡ Some h) (there : h < length p.tables.pins) where
      no_signal_key : (x : List ℕ) → last_dot x ≡ None → (n : Move) → Member n (moves p.signals (uses_of p at)) → n.0.need ≡ true → pin_name p.tables m.1.pin ++ 46 ∷ x ≢ signal_key (pin_name p.tables n.1.pin)
      no_signal_key x dotless n j y e =
          let l = inside_moves (length p.tables.pins) p.signals (uses_of p at) n s.within j in
          let parts = parts_same (pin_name p.tables m.1.pin) x (pin_name p.tables n.1.pin) (codes "Signal") dotless refl e in
          let pin : m.1.pin ≡ n.1.pin = some_same m.1.pin n.1.pin (sym (name_place p.tables s.are m.1.pin inside) ∙ ap (place p.tables.pins) parts.0 ∙ name_place p.tables s.are n.1.pin l) in
          let set = set_of p at s in
          let one = one_home p.signals (uses_of p at) set.pins set.homes m n i j pin in
          let none = (need_moves p.signals (uses_of p at) n s.needs j).1 y in
          let f : Some h ≡ None = sym home ∙ one ∙ none in
          absurd cc

      far_moved : (x : List ℕ) → last_dot x ≡ None → FarFrom (pin_name p.tables m.1.pin ++ 46 ∷ x) (appended_entries p at k keys)
      far_moved x dotless = far_both (pin_name p.tables m.1.pin ++ 46 ∷ x) (need_entries p.tables k p.signals (uses_of p at)) (clock_entries p at keys variables)
          (all_needs p.tables (λ (key : List ℕ). pin_name p.tables m.1.pin ++ 46 ∷ x ≢ key) p.signals (uses_of p at) k (λ j l b. no_need_key j x) (λ n j y. no_signal_key x dotless n j y) room)
          (all_clocks p at keys (λ (key : List ℕ). pin_name p.tables m.1.pin ++ 46 ∷ x ≢ key) variables (λ v y. no_clock_key v x))

      abbrev old : List ℕ → List ℕ
      old x = pin_name p.tables h ++ 46 ∷ x

      abbrev new : List ℕ → List ℕ
      new x = pin_name p.tables m.1.pin ++ 46 ∷ x

      line_old : (x y : List ℕ) → lookup es (old x) ≡ Some y → value_of (line_at ioc (old x)) ≡ Some y
      line_old x y e = line_value ioc (old x) ∙ ap (λ (l : List Entry). lookup l (old x)) before_is ∙ e

      line_same : (x : List ℕ) → last_dot x ≡ None → ((y : List ℕ) → value_of (line_at ioc (old x)) ≡ Some y → DoesNotEndInCr y) → value_of (line_at ioc (old x)) ≡ value_of (line_at back (new x))
      line_same x dotless ends =
          line_value ioc (old x) ∙ ap (λ (l : List Entry). lookup l (old x)) before_is
          ∙ pin_line_same p at (set_of p at s) pins es prefix (appended_entries p at k keys) apart near all m i h home there inside x dotless (λ y e. ends y (line_old x y e)) (far_moved x dotless)
          ∙ sym (line_value back (new x) ∙ ap (λ (l : List Entry). lookup l (new x)) after_is)

      -- the lines of its new pin put a signal there
      pub puts_moved : (kept : Bool) → Stands p.tables ioc kept (pin_name p.tables h) m.0 → Member m.1 (values_of p.tables m.0) → Puts p.tables back (pin_name p.tables m.1.pin) m.1.pin m.0.name
      puts_moved kept st chosen =
          let texts = each_text (length p.tables.pins) p.tables.signals valid.signals.each in
          let signal = line_same (codes "Signal") refl (λ y e. given_ends p.tables texts (line_at ioc (old (codes "Signal"))) st.signal y st.reads e) in
          let locked = line_same (codes "Locked") refl (λ y e. truth_ends y st.locked.0 (read_as false truth_of (line_at ioc (old (codes "Locked"))) st.locked.0 y st.locked.1 e)) in
          let pull = line_same (codes "GPIO_PuPd") refl (λ y e. pull_ends y st.pull.0 (read_as NoPull pull_of (line_at ioc (old (codes "GPIO_PuPd"))) st.pull.0 y st.pull.1 e)) in
          let speed = line_same (codes "GPIO_Speed") refl (λ y e. speed_ends y st.speed.0 (read_as Low speed_of (line_at ioc (old (codes "GPIO_Speed"))) st.speed.0 y st.speed.1 e)) in
          let g = same_given p.tables (line_at ioc (old (codes "Signal"))) (line_at back (new (codes "Signal"))) st.signal signal st.reads in
          record {
            real = ap is_virtual first.1 ∙ not_virtual first.0;
            there = place_same p.tables (pin_name p.tables m.1.pin) ∙ name_place p.tables s.are m.1.pin inside;
            given = record {
              signal = g.given;
              reads = g.reads;
              named = g.named ∙ sym st.named;
              can = can_by m.1.pin g.given (λ x e. (let r = given_named p.tables (line_at ioc (old (codes "Signal"))) st.signal x st.reads (sym g.same ∙ e) in
                  fits_there p.tables m.0 m.1 x chosen (ap (signal_named p.tables) (st.named ∙ r.0) ∙ r.1)));
            };
            locked = (st.locked.0, same_value false truth_of (line_at ioc (old (codes "Locked"))) (line_at back (new (codes "Locked"))) st.locked.0 locked st.locked.1);
            pull = (st.pull.0, same_value NoPull pull_of (line_at ioc (old (codes "GPIO_PuPd"))) (line_at back (new (codes "GPIO_PuPd"))) st.pull.0 pull st.pull.1);
            speed = (st.speed.0, same_value Low speed_of (line_at ioc (old (codes "GPIO_Speed"))) (line_at back (new (codes "GPIO_Speed"))) st.speed.0 speed st.speed.1);
          }
