-- What becomes of entries, and that their keys stay apart.
use Rattle.std.proofs.Common.{◌≡◌, ◌≢◌, ℕ, ◌<◌, List, [], ◌∷◌, ◌++◌, length, Bool, true, false, cond, Option, Some, None, refl, sym, ap, ◌∙◌, subst, inl, inr}
use Rattle.std.specs.Prelude.{codes, decimal, is_some}
use Rattle.std.specs.List.{flat_map}
use Rattle.std.specs.Str.{bytes_eq}
use Rattle.res_base.specs.Lists.{Each, Pairwise}
use Rattle.res_base.proofs.ListLemmas.{each_in}
use Rattle.res_base.proofs.SumLemmas.{bool_cases}
use Rattle.res_model.specs.PinNames.{place}
use Rattle.res_model.specs.Valid.{ArePins}
use Rattle.res_model.specs.declared.project.Signal.{Signal}
use Rattle.res_model.specs.declared.table.PinUse.{PinUse}
use Rattle.ioc_text.specs.Lines.{pin_number}
use Rattle.problem.specs.ClockValues.{clock_at}
use Rattle.problem.specs.declared.parts.ProblemParts.{ProblemParts}
use Rattle.ioc_lines.specs.Entries.{AreApart, Entry}
use Rattle.ioc_lines.specs.Lines.{last_dot, pin_part, rest_from}
use Rattle.ioc_lines.proofs.KeyLemmas.{IsDotted, dotted_part, no_count, no_number, part_is, parts_same, same_key}
use Rattle.ioc_write.specs.Reading.{changed, entry_said}
use Rattle.ioc_write.specs.WriteBack.{change_of_key, fate_at, fate_named, fate_of, is_away, keyed_by, named_by, naming, pin_name, spelled, uses_of, variable_of}
use Rattle.ioc_write.specs.declared.change.Change.TheVariants as change
use Rattle.ioc_write.specs.declared.fate.Fate.{Fate}
use Rattle.ioc_write.specs.declared.fate.Fate.TheVariants as fate
use Rattle.ioc_write.specs.declared.variable.Variable.{Variable}
use Rattle.ioc_write.proofs.MoveLemmas.{FromApart, GoesTo, PinsApart, kept_home, moved_by, moves, one_home}
use Rattle.ioc_write.proofs.PinNames.{begins_with_p, name_place, place_name}

-- ---- kinds of keys

pub data KeyClass (key : List ℕ) : Type 0 where
  of_pin : is_some (pin_number key) ≡ true → KeyClass key
  of_count : is_some (pin_number key) ≡ false → bytes_eq key (codes "Mcu.PinsNb") ≡ true → KeyClass key
  of_clock : (v : Variable) → is_some (pin_number key) ≡ false → bytes_eq key (codes "Mcu.PinsNb") ≡ false → variable_of key ≡ Some v → KeyClass key
  of_part : is_some (pin_number key) ≡ false → bytes_eq key (codes "Mcu.PinsNb") ≡ false → variable_of key ≡ None → KeyClass key

class_by : (key : List ℕ) (o : Option Variable) → is_some (pin_number key) ≡ false → bytes_eq key (codes "Mcu.PinsNb") ≡ false → variable_of key ≡ o → KeyClass key
class_by key None n c e = of_part n c e
class_by key (Some v) n c e = of_clock v n c e

pub class_of : (key : List ℕ) → KeyClass key
class_of key = elim (bool_cases (is_some (pin_number key))) [
  | inl y ↦ of_pin y
  | inr n ↦ elim (bool_cases (bytes_eq key (codes "Mcu.PinsNb"))) [
    | inl y ↦ of_count n y
    | inr c ↦ class_by key (variable_of key) n c refl
  ]
]

pub no_variable_of : (bs : List ℕ) → variable_of (80 ∷ bs) ≡ None
unfolding variable_of
no_variable_of bs = refl

-- a key that begins with P is of no other kind
abbrev pub IsSpecial : List ℕ → Type 0
IsSpecial key = (bs : List ℕ) → key ≡ 80 ∷ bs → ⊥

pub special_pin : (key : List ℕ) → is_some (pin_number key) ≡ true → IsSpecial key
special_pin key e bs f =
    let none : is_some (pin_number key) ≡ false = ap (λ (k : List ℕ). is_some (pin_number k)) f ∙ ap is_some (no_number bs) in
    absurd cc

pub special_count : (key : List ℕ) → bytes_eq key (codes "Mcu.PinsNb") ≡ true → IsSpecial key
special_count key e bs f =
    let none : bytes_eq key (codes "Mcu.PinsNb") ≡ false = ap (λ (k : List ℕ). bytes_eq k (codes "Mcu.PinsNb")) f ∙ no_count bs in
    absurd cc

pub special_clock : (key : List ℕ) (v : Variable) → variable_of key ≡ Some v → IsSpecial key
special_clock key v e bs f =
    let none : Some v ≡ None = sym e ∙ ap variable_of f ∙ no_variable_of bs in
    absurd cc

-- ---- what becomes of a key

pub data Becomes (p : ProblemParts) (at key next : List ℕ) : Type 0 where
  by_same : next ≡ key → IsSpecial key → Becomes p at key next
  by_kept : next ≡ key → fate_named p at (pin_part key) ≡ fate.Kept → Becomes p at key next
  by_moved : (q : ℕ) → fate_named p at (pin_part key) ≡ fate.Moved q → next ≡ pin_name p.tables q ++ rest_from key (last_dot key) → Becomes p at key next

-- nothing, or one entry of such a key
pub data BecomesOne (p : ProblemParts) (at : List ℕ) (e : Entry) (es : List Entry) : Type 0 where
  is_nothing : es ≡ [] → BecomesOne p at e es
  is_one : (f : Entry) → es ≡ f ∷ [] → Becomes p at e.0 f.0 → BecomesOne p at e es

module _ (p : ProblemParts) (at : List ℕ) (pins : ℕ) (e : Entry) where
  pub with_pin_number : is_some (pin_number e.0) ≡ true → changed p at pins e ≡ entry_said p at pins e (named_by p at (Some e.1))
  with_pin_number y = rw y refl

  pub with_count : is_some (pin_number e.0) ≡ false → bytes_eq e.0 (codes "Mcu.PinsNb") ≡ true → changed p at pins e ≡ entry_said p at pins e change.Counted
  with_count n y = rw (n, y) refl

  pub with_other : is_some (pin_number e.0) ≡ false → bytes_eq e.0 (codes "Mcu.PinsNb") ≡ false → (o : Option Variable) → variable_of e.0 ≡ o → changed p at pins e ≡ entry_said p at pins e (change_of_key p at e.0 o)
  with_other n c o v = rw (n, c, v) refl

  by_naming : (f : Fate) → is_some (pin_number e.0) ≡ true → BecomesOne p at e (entry_said p at pins e (naming f))
  by_naming fate.Kept y = is_one e refl (by_same refl (special_pin e.0 y))
  by_naming (fate.Moved q) y = is_one (e.0, pin_name p.tables q) refl (by_same refl (special_pin e.0 y))
  by_naming fate.Taken y = is_one e refl (by_same refl (special_pin e.0 y))

  by_clock : (v : Variable) (away : Bool) → variable_of e.0 ≡ Some v → BecomesOne p at e (entry_said p at pins e (cond away (change.Set v) change.Kept))
  by_clock v true y = is_one (e.0, spelled (clock_at p.clock at) v) refl (by_same refl (special_clock e.0 v y))
  by_clock v false y = is_one e refl (by_same refl (special_clock e.0 v y))

  by_fate : (f : Fate) → fate_named p at (pin_part e.0) ≡ f → BecomesOne p at e (entry_said p at pins e (keyed_by f))
  by_fate fate.Kept y = is_one e refl (by_kept refl y)
  by_fate (fate.Moved q) y = is_one (pin_name p.tables q ++ rest_from e.0 (last_dot e.0), e.1) refl (by_moved q y refl)
  by_fate fate.Taken y = is_nothing refl

  by_class : KeyClass e.0 → BecomesOne p at e (changed p at pins e)
  by_class (of_pin y) = subst (BecomesOne p at e) (sym (with_pin_number y)) (by_naming (fate_named p at e.1) y)
  by_class (of_count n y) = subst (BecomesOne p at e) (sym (with_count n y)) (is_one (e.0, decimal pins) refl (by_same refl (special_count e.0 y)))
  by_class (of_clock v n c y) = subst (BecomesOne p at e) (sym (with_other n c (Some v) y)) (by_clock v (is_away p at v) y)
  by_class (of_part n c y) = subst (BecomesOne p at e) (sym (with_other n c None y)) (by_fate (fate_named p at (pin_part e.0)) refl)

  pub becomes : BecomesOne p at e (changed p at pins e)
  becomes = by_class (class_of e.0)

-- ---- no two keys become one

-- what the choice and the table say
pub record IsSet (p : ProblemParts) (at : List ℕ) : Type 0 where
  pub pins : Pairwise PinsApart (moves p.signals (uses_of p at))
  pub homes : Pairwise FromApart (moves p.signals (uses_of p at))
  pub within : Each (λ (m : Signal × PinUse). m.1.pin < length p.tables.pins) (moves p.signals (uses_of p at))
  pub are : ArePins p.tables.pins

module _ (p : ProblemParts) (at : List ℕ) (set : IsSet p at) where
  ss : List Signal
  ss = p.signals

  us : List PinUse
  us = uses_of p at

  -- a name whose lines move
  pub record NameMoves (name : List ℕ) (q : ℕ) : Type 0 where
    pub home : ℕ
    pub there : pin_name p.tables home ≡ name
    pub goes : GoesTo p.signals (uses_of p at) set.pins set.homes home q
    pub inside : home < length p.tables.pins

  moves_by : (name : List ℕ) (q : ℕ) (o : Option ℕ) → place p.tables.pins name ≡ o → fate_at p.signals (uses_of p at) o ≡ fate.Moved q → NameMoves name q
  moves_by name q None e f = absurd cc
  moves_by name q (Some h) e f =
      let n = place_name p.tables set.are name h e in
      record { home = h; there = n.0; goes = moved_by p.signals (uses_of p at) set.pins set.homes h q f; inside = n.1 }

  pub name_moves : (name : List ℕ) (q : ℕ) → fate_named p at name ≡ fate.Moved q → NameMoves name q
  unfolding fate_named
  name_moves name q e = moves_by name q (place p.tables.pins name) refl e

  pub goes_within : (h q : ℕ) (g : GoesTo p.signals (uses_of p at) set.pins set.homes h q) → q < length p.tables.pins
  goes_within h q g = subst (λ (n : ℕ). n < length p.tables.pins) g.goes (each_in (λ (m : Signal × PinUse). m.1.pin < length p.tables.pins) g.move (moves p.signals (uses_of p at)) set.within g.member)

  -- the fate of a pin by its name
  pub fate_of_name : (q : ℕ) → q < length p.tables.pins → fate_named p at (pin_name p.tables q) ≡ fate_of p.signals (uses_of p at) q
  unfolding fate_named
  fate_of_name q l = ap (fate_at p.signals (uses_of p at)) (name_place p.tables set.are q l)

  -- a key whose lines move has a dot, and its new key begins with P
  pub record KeyMoves (key next : List ℕ) (q : ℕ) : Type 0 where
    pub dots : IsDotted key
    pub moving : NameMoves dots.prefix q
    pub is : next ≡ pin_name p.tables q ++ 46 ∷ dots.rest
    pub begins : (bs : List ℕ) × (next ≡ 80 ∷ bs)
    pub inside : q < length p.tables.pins

  pub key_moves : (key next : List ℕ) (q : ℕ) → fate_named p at (pin_part key) ≡ fate.Moved q → next ≡ pin_name p.tables q ++ rest_from key (last_dot key) → KeyMoves key next q
  key_moves key next q f e =
      let n = name_moves (pin_part key) q f in
      let b = begins_with_p p.tables set.are n.home n.inside in
      let d = dotted_part key 80 b.0 (sym n.there ∙ b.1) in
      let l = goes_within n.home q n.goes in
      let c = begins_with_p p.tables set.are q l in
      let is : next ≡ pin_name p.tables q ++ 46 ∷ d.rest = e ∙ ap (λ (x : List ℕ). pin_name p.tables q ++ x) d.behind in
      record {
        dots = d;
        moving = record { home = n.home; there = n.there ∙ d.part; goes = n.goes; inside = n.inside };
        is = is;
        begins = (c.0 ++ 46 ∷ d.rest, is ∙ ap (λ (x : List ℕ). x ++ 46 ∷ d.rest) c.1);
        inside = l;
      }

  some_same : (a b : ℕ) → Some a ≡ Some b → a ≡ b
  some_same a b e = cc

  -- no line of a pin stays where another signal comes
  pub not_kept : (a b : List ℕ) (q : ℕ) → fate_named p at (pin_part a) ≡ fate.Kept → KeyMoves b a q → ⊥
  not_kept a b q k m =
      let part : pin_part a ≡ pin_name p.tables q = ap pin_part m.is ∙ part_is (pin_name p.tables q) m.dots.rest m.dots.none in
      let stays : fate_of p.signals (uses_of p at) q ≡ fate.Kept = sym (fate_of_name q m.inside) ∙ ap (fate_named p at) (sym part) ∙ k in
      let g = m.moving.goes in
      let home : g.move.0.home ≡ Some q = kept_home p.signals (uses_of p at) set.pins set.homes q g.move g.member g.goes stays in
      g.away (some_same q m.moving.home (sym home ∙ g.home))

  two_moved : (a b next : List ℕ) (q r : ℕ) → KeyMoves a next q → KeyMoves b next r → a ≡ b
  two_moved a b next q r m n =
      let parts = parts_same (pin_name p.tables q) m.dots.rest (pin_name p.tables r) n.dots.rest m.dots.none n.dots.none (sym m.is ∙ n.is) in
      let pin : q ≡ r = some_same q r (sym (name_place p.tables set.are q m.inside) ∙ ap (place p.tables.pins) parts.0 ∙ name_place p.tables set.are r n.inside) in
      let g = m.moving.goes in
      let h = n.moving.goes in
      let one = one_home p.signals (uses_of p at) set.pins set.homes g.move h.move g.member h.member (g.goes ∙ pin ∙ sym h.goes) in
      let home : m.moving.home ≡ n.moving.home = some_same m.moving.home n.moving.home (sym g.home ∙ one ∙ h.home) in
      same_key a b m.dots n.dots (sym m.moving.there ∙ ap (pin_name p.tables) home ∙ n.moving.there) parts.1

  pub one_key : (a b next : List ℕ) → Becomes p at a next → Becomes p at b next → a ≡ b
  one_key a b next (by_same e s) (by_same f t) = sym e ∙ f
  one_key a b next (by_same e s) (by_kept f k) = sym e ∙ f
  one_key a b next (by_same e s) (by_moved q k f) = let m = key_moves b next q k f in absurd (s m.begins.0 (sym e ∙ m.begins.1))
  one_key a b next (by_kept e k) (by_same f t) = sym e ∙ f
  one_key a b next (by_kept e k) (by_kept f l) = sym e ∙ f
  one_key a b next (by_kept e k) (by_moved q l f) = absurd (not_kept a b q k (subst (λ (x : List ℕ). KeyMoves b x q) e (key_moves b next q l f)))
  one_key a b next (by_moved q k e) (by_same f t) = let m = key_moves a next q k e in absurd (t m.begins.0 (sym f ∙ m.begins.1))
  one_key a b next (by_moved q k e) (by_kept f l) = absurd (not_kept b a q l (subst (λ (x : List ℕ). KeyMoves a x q) f (key_moves a next q k e)))
  one_key a b next (by_moved q k e) (by_moved r l f) = two_moved a b next q r (key_moves a next q k e) (key_moves b next r l f)

  -- ---- so entries stay apart

  module _ (pins : ℕ) where
    far_one : (e : Entry) (next : List ℕ) (f : Entry) (fs : List Entry) → Becomes p at e.0 next → (e.0 ≢ f.0) → BecomesOne p at f fs → Each (λ (x : Entry). next ≢ x.0) fs
    far_one e next f fs b d (is_nothing q) = subst (Each (λ (x : Entry). next ≢ x.0)) (sym q) tt
    far_one e next f fs b d (is_one g q c) = subst (Each (λ (x : Entry). next ≢ x.0)) (sym q) ((λ same. d (one_key e.0 f.0 next b (subst (Becomes p at f.0) (sym same) c))), tt)

    each_both : {X : Type 0} (P : X → Type 0) (xs ys : List X) → Each P xs → Each P ys → Each P (xs ++ ys)
    each_both P [] ys h k = k
    each_both P (x ∷ xs) ys h k = (h.0, each_both P xs ys h.1 k)

    far_all : (e : Entry) (next : List ℕ) (fs : List Entry) → Becomes p at e.0 next → Each (λ (f : Entry). e.0 ≢ f.0) fs → Each (λ (x : Entry). next ≢ x.0) (flat_map (changed p at pins) fs)
    far_all e next [] b d = tt
    far_all e next (f ∷ fs) b d =
        each_both (λ (x : Entry). next ≢ x.0) (changed p at pins f) (flat_map (changed p at pins) fs) (far_one e next f (changed p at pins f) b d.0 (becomes p at pins f)) (far_all e next fs b d.1)

    one_apart : (e : Entry) (es fs : List Entry) → BecomesOne p at e es → Each (λ (f : Entry). e.0 ≢ f.0) fs → AreApart (flat_map (changed p at pins) fs) → AreApart (es ++ flat_map (changed p at pins) fs)
    one_apart e es fs (is_nothing q) d h = subst (λ (x : List Entry). AreApart (x ++ flat_map (changed p at pins) fs)) (sym q) h
    one_apart e es fs (is_one g q b) d h = subst (λ (x : List Entry). AreApart (x ++ flat_map (changed p at pins) fs)) (sym q) (far_all e g.0 fs b d, h)

    pub changed_apart : (es : List Entry) → AreApart es → AreApart (flat_map (changed p at pins) es)
    changed_apart [] h = tt
    changed_apart (e ∷ es) h = one_apart e (changed p at pins e) es (becomes p at pins e) h.0 (changed_apart es h.1)
