-- Each line that is written says what the choice leaves of its entry.
use Rattle.std.proofs.Common.{◌≡◌, ℕ, ◌+◌, ◌^◌, ◌<◌, ◌≤◌, List, [], ◌∷◌, ◌++◌, length, drop, Bool, true, false, cond, Option, Some, None, Ok, Err, refl, sym, ap, ◌∙◌, subst, inl, inr, append-nil, arith}
use Rattle.std.specs.Prelude.{codes, decimal, nat_lt}
use Rattle.std.specs.List.{flat_map}
use Rattle.std.proofs.lemmas.Bool.Decides.{nat_tests}
use Rattle.std.proofs.lemmas.Fmt.{decimal_nonempty}
use Rattle.std.proofs.lemmas.List.{drop_at}
use Rattle.res_base.specs.Lists.{Each}
use Rattle.res_base.proofs.SumLemmas.{bool_cases}
use Rattle.res_model.specs.Clock.{IsInRange}
use Rattle.res_model.specs.Valid.{IsPrinting}
use Rattle.res_model.specs.declared.clock.ClockChoice.{ClockChoice}
use Rattle.res_model.specs.declared.clock.Src.{Src}
use Rattle.res_model.specs.declared.clock.Src.TheVariants.{Hsi, Hse, Pll}
use Rattle.ioc_text.specs.Lines.{is_named, undone}
use Rattle.problem.specs.ClockValues.{clock_at}
use Rattle.problem.specs.declared.parts.ProblemParts.{ProblemParts}
use Rattle.ioc_lines.specs.Entries.{Entry, Reads, entry_if, entry_of}
use Rattle.ioc_lines.specs.Lines.{IsClean, Keyed, TextLine, escaped, keyed, last_dot, pin_part, rest_from, with_pin, with_value}
use Rattle.ioc_lines.proofs.KeyLemmas.{named_by_rest}
use Rattle.ioc_lines.proofs.LineLemmas.{no_entry, reads_named, reads_unnamed, short_line, value_read}
use Rattle.ioc_lines.proofs.PlainLemmas.{IsPlain, all_plain, decimal_plain, escaped_print, escaped_some, plain_append, plain_print, plain_same}
use Rattle.ioc_write.specs.Reading.{changed, change_with, entry_said}
use Rattle.ioc_write.specs.WriteBack.{beginning, change_by, fate_named, is_away, keyed_by, limited, line_written, line_written_by, naming, pin_name, plain, said, source_text, spelled, written}
use Rattle.ioc_write.specs.declared.change.Change.{Change}
use Rattle.ioc_write.specs.declared.change.Change.TheVariants as change
use Rattle.ioc_write.specs.declared.fate.Fate.{Fate}
use Rattle.ioc_write.specs.declared.fate.Fate.TheVariants as fate
use Rattle.ioc_write.specs.declared.fault.BackFault.TheVariants.{LongLine}
use Rattle.ioc_write.specs.declared.variable.Variable.{Variable}
use Rattle.ioc_write.specs.declared.variable.Variable.TheVariants as variable
use Rattle.ioc_write.proofs.ChangeLemmas.{IsSet, KeyClass, of_pin, of_count, of_clock, of_part, KeyMoves, class_of, goes_within, key_moves, name_moves}
use Rattle.ioc_write.proofs.LineChanges.{Bytes, IsValue, NewLine, named_line, unnamed_line, value_line}
use Rattle.ioc_write.proofs.NamedLemmas.{key_of_variable, named_clock, named_count, named_pin}
use Rattle.ioc_write.proofs.PinNames.{begins_with_p, pin_at}

-- ---- the values that are written

plain_value : (raw : List ℕ) (b : ℕ) (bs : List ℕ) → raw ≡ b ∷ bs → IsPlain raw → IsValue raw raw
plain_value raw b bs e h = record { is = sym (plain_same raw h); print = plain_print raw h; first = b; more = bs; some = e }

some_byte : (xs : List ℕ) → 0 < length xs → (b : ℕ) × (bs : List ℕ) × (xs ≡ b ∷ bs)
some_byte [] l = absurd (omega arith)
some_byte (x ∷ xs) l = (x, xs, refl)

pub decimal_value : (n : ℕ) → n < 2 ^ 64 → IsValue (decimal n) (decimal n)
decimal_value n l = let s = some_byte (decimal n) (decimal_nonempty n l) in plain_value (decimal n) s.0 s.1 s.2 (decimal_plain n l)

source_plain : (s : Src) → IsPlain (source_text s)
source_plain Hsi = all_plain (codes "HSI") refl
source_plain Hse = all_plain (codes "HSE") refl
source_plain Pll = all_plain (codes "PLLCLK") refl

less : (a b : ℕ) → nat_lt a b ≡ true → a < b
less a b e = grind (arith, nat_tests)

source_some : (s : Src) → 0 < length (source_text s)
source_some Hsi = less 0 (length (codes "HSI")) refl
source_some Hse = less 0 (length (codes "HSE")) refl
source_some Pll = less 0 (length (codes "PLLCLK")) refl

beginning_plain : (v : Variable) → IsPlain (beginning v)
beginning_plain variable.System = all_plain (codes "RCC_SYSCLKSOURCE_") refl
beginning_plain variable.Input = all_plain (codes "RCC_PLLSOURCE_") refl
beginning_plain variable.Ahb = all_plain (codes "RCC_SYSCLK_DIV") refl
beginning_plain variable.P = all_plain (codes "RCC_PLLP_DIV") refl
beginning_plain variable.M = tt
beginning_plain variable.N = tt
beginning_plain variable.Q = tt
beginning_plain variable.Apb1 = all_plain (codes "RCC_HCLK_DIV") refl
beginning_plain variable.Apb2 = all_plain (codes "RCC_HCLK_DIV") refl

module _ (c : ClockChoice) (r : IsInRange c) where
  small : (n : ℕ) → n ≤ 65535 → n < 2 ^ 64
  small n l = omega (arith, l)

  plain_is : (v : Variable) → IsPlain (plain c v) × (0 < length (plain c v))
  plain_is variable.System = (source_plain c.src, source_some c.src)
  plain_is variable.Input = (source_plain c.psrc, source_some c.psrc)
  plain_is variable.Ahb = let l = r.hpre.1 in let s : c.hpre < 2 ^ 64 = omega (arith, l) in (decimal_plain c.hpre s, decimal_nonempty c.hpre s)
  plain_is variable.P = let l = r.p.1 in let s : c.p < 2 ^ 64 = omega (arith, l) in (decimal_plain c.p s, decimal_nonempty c.p s)
  plain_is variable.M = let l = r.m.1 in let s : c.m < 2 ^ 64 = omega (arith, l) in (decimal_plain c.m s, decimal_nonempty c.m s)
  plain_is variable.N = let l = r.n.1 in let s : c.n < 2 ^ 64 = omega (arith, l) in (decimal_plain c.n s, decimal_nonempty c.n s)
  plain_is variable.Q = let l = r.q.1 in let s : c.q < 2 ^ 64 = omega (arith, l) in (decimal_plain c.q s, decimal_nonempty c.q s)
  plain_is variable.Apb1 = let l = r.ppre1.1 in let s : c.ppre1 < 2 ^ 64 = omega (arith, l) in (decimal_plain c.ppre1 s, decimal_nonempty c.ppre1 s)
  plain_is variable.Apb2 = let l = r.ppre2.1 in let s : c.ppre2 < 2 ^ 64 = omega (arith, l) in (decimal_plain c.ppre2 s, decimal_nonempty c.ppre2 s)

  first_on : (xs ys : List ℕ) → 0 < length ys → (b : ℕ) × (bs : List ℕ) × (xs ++ ys ≡ b ∷ bs)
  first_on [] ys l = some_byte ys l
  first_on (x ∷ xs) ys l = (x, xs ++ ys, refl)

  pub spelled_value : (v : Variable) → IsValue (spelled c v) (spelled c v)
  unfolding spelled
  spelled_value v =
      let h = plain_is v in
      let s = first_on (beginning v) (plain c v) h.1 in
      plain_value (beginning v ++ plain c v) s.0 s.1 s.2 (plain_append (beginning v) (plain c v) (beginning_plain v) h.0)

module _ (p : ProblemParts) (at : List ℕ) (set : IsSet p at) where
  pub name_some : (q : ℕ) → q < length p.tables.pins → 0 < length (pin_name p.tables q)
  name_some q l = let b = begins_with_p p.tables set.are q l in subst (λ (x : List ℕ). 0 < length x) (sym b.1) (omega arith)

  pub name_prints : (q : ℕ) → q < length p.tables.pins → Each IsPrinting (pin_name p.tables q)
  name_prints q l = let r = pin_at p.tables set.are q l in subst (Each IsPrinting) (sym r.name) r.is.text.printing

  pub name_value : (q : ℕ) → q < length p.tables.pins → IsValue (pin_name p.tables q) (escaped (pin_name p.tables q))
  name_value q l =
      let b = begins_with_p p.tables set.are q l in
      let s = escaped_some 80 b.0 in
      record { is = refl; print = escaped_print (pin_name p.tables q) (name_prints q l); first = s.0; more = s.1; some = ap escaped b.1 ∙ s.2 }

  -- a key is named where the key is with another pin
  pub named_stays : (key next : List ℕ) (q : ℕ) (m : KeyMoves p at set key next q) → is_named (pin_name p.tables q ++ drop (length m.dots.prefix) key) ≡ is_named key
  named_stays key next q m =
      let d = m.dots in
      let cut : drop (length d.prefix) key ≡ 46 ∷ d.rest = ap (drop (length d.prefix)) d.is ∙ drop_at d.prefix (46 ∷ d.rest) (length d.prefix) refl in
      let b = begins_with_p p.tables set.are q m.inside in
      let a = begins_with_p p.tables set.are m.moving.home m.moving.inside in
      ap (λ (x : List ℕ). is_named (pin_name p.tables q ++ x)) cut ∙ named_by_rest (pin_name p.tables q) d.rest b.0 b.1 d.none
      ∙ sym (ap is_named d.is ∙ named_by_rest d.prefix d.rest a.0 (sym m.moving.there ∙ a.1) d.none)

-- ---- one line

-- it is gone, or says this anew
pub data LineSaid (p : ProblemParts) (at : List ℕ) (pins : ℕ) (l : TextLine) (w : List ℕ) : Type 0 where
  is_gone : w ≡ [] → flat_map (changed p at pins) (entry_if (entry_of l.says)) ≡ [] → LineSaid p at pins l w
  is_anew : (s : List ℕ) → w ≡ s ++ l.end → NewLine l.says s (flat_map (changed p at pins) (entry_if (entry_of l.says))) → LineSaid p at pins l w

pub same_ok : (a b : List ℕ) → (let r : Bytes = Ok a in r) ≡ Ok b → a ≡ b
same_ok a b e = cc

limit : (n : ℕ) (s end w : List ℕ) → limited n s end ≡ Ok w → (length s ≤ 65535) × (w ≡ s ++ end)
limit n s end w e = elim (bool_cases (nat_lt 65535 (length s))) [
  | inl t ↦ let f : (let r : Bytes = Err (LongLine n) in r) ≡ Ok w = rw t at e in absurd cc
  | inr t ↦ let f : (let r : Bytes = Ok (s ++ end) in r) ≡ Ok w = rw t at e in (grind (arith, nat_tests), sym (same_ok (s ++ end) w f))
]

module _ (p : ProblemParts) (at : List ℕ) (pins : ℕ) (set : IsSet p at) (range : IsInRange (clock_at p.clock at)) (few : pins < 2 ^ 64) (n : ℕ) (l : TextLine) (reads : Reads l.says) (clean : IsClean l.says) (w : List ℕ) where
  abbrev out : Option Entry → List Entry
  out o = flat_map (changed p at pins) (entry_if o)

  kept_as : (o : Option Entry) → entry_of l.says ≡ o → out o ≡ entry_if o → (let r : Bytes = Ok (l.says ++ l.end) in r) ≡ Ok w → LineSaid p at pins l w
  kept_as o e h f = is_anew l.says (sym (same_ok (l.says ++ l.end) w f)) (record { reads = reads; clean = clean; cr = λ c. c; is = ap entry_if e ∙ sym h ∙ ap out (sym e) })

  module _ (k : Keyed) (h : keyed l.says ≡ Some k) where
    abbrev raw : List ℕ
    raw = drop (k.equals + 1) l.says

    -- ---- a named key with its value
    module _ (v : List ℕ) (value : undone raw ≡ Some v) (e : entry_of l.says ≡ Some (k.key, v)) (nm : is_named k.key ≡ true) where
      abbrev with_it : Change
      with_it = change_with p at k.key (Some v)

      out_is : (c : Change) → with_it ≡ c → out (entry_of l.says) ≡ entry_said p at pins (k.key, v) c
      out_is c q = ap out e ∙ append-nil (changed p at pins (k.key, v)) ∙ ap (entry_said p at pins (k.key, v)) q

      -- what a change rests on
      abbrev RestsOn : Change → Type 0
      RestsOn change.Kept = Unit {0}
      RestsOn change.Dropped = Unit {0}
      RestsOn (change.Named q) = fate_named p at v ≡ fate.Moved q
      RestsOn (change.Renamed q) = fate_named p at (pin_part k.key) ≡ fate.Moved q
      RestsOn (change.Set x) = Unit {0}
      RestsOn change.Counted = Unit {0}

      on_naming : (f : Fate) → fate_named p at v ≡ f → RestsOn (naming f)
      on_naming fate.Kept q = tt
      on_naming (fate.Moved x) q = q
      on_naming fate.Taken q = tt

      on_keyed : (f : Fate) → fate_named p at (pin_part k.key) ≡ f → RestsOn (keyed_by f)
      on_keyed fate.Kept q = tt
      on_keyed (fate.Moved x) q = q
      on_keyed fate.Taken q = tt

      on_clock : (x : Variable) (away : Bool) → RestsOn (cond away (change.Set x) change.Kept)
      on_clock x true = tt
      on_clock x false = tt

      on_class : KeyClass k.key → RestsOn with_it
      on_class (of_pin y) = rw y (on_naming (fate_named p at v) refl)
      on_class (of_count m y) = rw (m, y) tt
      on_class (of_clock x m c q) = rw (m, c, q) (on_clock x (is_away p at x))
      on_class (of_part m c q) = rw (m, c, q) (on_keyed (fate_named p at (pin_part k.key)) refl)

      anew_value : (c : Change) (value new : List ℕ) → with_it ≡ c → IsValue value new → entry_said p at pins (k.key, v) c ≡ (k.key, value) ∷ [] → limited n (with_value l.says k.equals new) l.end ≡ Ok w → LineSaid p at pins l w
      anew_value c value new q i es f =
          let t = limit n (with_value l.says k.equals new) l.end w f in
          let r = value_line l.says k h clean value new i nm t.0 in
          is_anew (with_value l.says k.equals new) t.1 (record { reads = r.reads; clean = r.clean; cr = r.cr; is = r.is ∙ sym (out_is c q ∙ es) })

      by_change : (c : Change) → with_it ≡ c → RestsOn c → written n l c (said p at pins l.says k.equals c) ≡ Ok w → LineSaid p at pins l w
      by_change change.Kept q r f = kept_as (Some (k.key, v)) e (append-nil (changed p at pins (k.key, v)) ∙ ap (entry_said p at pins (k.key, v)) q) f
      by_change change.Dropped q r f = is_gone (sym (same_ok [] w f)) (out_is change.Dropped q)
      by_change (change.Named x) q r f =
          let m = name_moves p at set v x r in
          let inside = goes_within p at set m.home x m.goes in
          anew_value (change.Named x) (pin_name p.tables x) (escaped (pin_name p.tables x)) q (name_value p at set x inside) refl f
      by_change (change.Renamed x) q r f =
          let m = key_moves p at set k.key (pin_name p.tables x ++ rest_from k.key (last_dot k.key)) x r refl in
          let t = limit n (with_pin l.says k.equals (escaped (pin_name p.tables x))) l.end w f in
          let dot = length m.dots.prefix in
          let new = named_line l.says k h clean dot m.dots.dot (pin_name p.tables x) (name_some p at set x m.inside) (name_prints p at set x m.inside) v
          (named_stays p at set k.key (pin_name p.tables x ++ rest_from k.key (last_dot k.key)) x m ∙ nm) value t.0 in
          is_anew (with_pin l.says k.equals (escaped (pin_name p.tables x))) t.1 (record {
            reads = new.reads;
            clean = new.clean;
            cr = new.cr;
            is = new.is ∙ ap (λ (o : Option ℕ). (pin_name p.tables x ++ rest_from k.key o, v) ∷ []) (sym m.dots.dot) ∙ sym (out_is (change.Renamed x) q);
          })
      by_change (change.Set x) q r f = anew_value (change.Set x) (spelled (clock_at p.clock at) x) (spelled (clock_at p.clock at) x) q (spelled_value (clock_at p.clock at) range x) refl f
      by_change change.Counted q r f = anew_value change.Counted (decimal pins) (decimal pins) q (decimal_value pins few) refl f

      pub named_said : written n l with_it (said p at pins l.says k.equals with_it) ≡ Ok w → LineSaid p at pins l w
      named_said f = by_change with_it refl (on_class (class_of k.key)) f

    -- ---- a key that is not named
    module _ (nm : is_named k.key ≡ false) where
      nothing_read : entry_of l.says ≡ None
      nothing_read = (reads_unnamed l.says k h (short_line l.says reads) nm).1

      out_none : out (entry_of l.says) ≡ []
      out_none = ap out nothing_read

      abbrev by_key : Change
      by_key = change_with p at k.key (undone raw)

      other_fate : (f : Fate) → fate_named p at (pin_part k.key) ≡ f → written n l (keyed_by f) (said p at pins l.says k.equals (keyed_by f)) ≡ Ok w → LineSaid p at pins l w
      other_fate fate.Kept q f = kept_as None nothing_read refl f
      other_fate (fate.Moved x) q f =
          let m = key_moves p at set k.key (pin_name p.tables x ++ rest_from k.key (last_dot k.key)) x q refl in
          let t = limit n (with_pin l.says k.equals (escaped (pin_name p.tables x))) l.end w f in
          let dot = length m.dots.prefix in
          let new = unnamed_line l.says k h clean dot m.dots.dot (pin_name p.tables x) (name_some p at set x m.inside) (name_prints p at set x m.inside)
          (named_stays p at set k.key (pin_name p.tables x ++ rest_from k.key (last_dot k.key)) x m ∙ nm) t.0 in
          is_anew (with_pin l.says k.equals (escaped (pin_name p.tables x))) t.1 (record { reads = new.reads; clean = new.clean; cr = new.cr; is = new.is ∙ sym out_none })
      other_fate fate.Taken q f = is_gone (sym (same_ok [] w f)) out_none

      other_class : KeyClass k.key → written n l by_key (said p at pins l.says k.equals by_key) ≡ Ok w → LineSaid p at pins l w
      other_class (of_pin y) f = let t = named_pin k.key y in absurd cc
      other_class (of_count m y) f = let t = named_count k.key y in absurd cc
      other_class (of_clock x m c q) f = let t : is_named k.key ≡ true = ap is_named (key_of_variable k.key x q) ∙ named_clock x in absurd cc
      other_class (of_part m c q) f = other_fate (fate_named p at (pin_part k.key)) refl (rw (m, c, q) at f)

      pub other_said : written n l by_key (said p at pins l.says k.equals by_key) ≡ Ok w → LineSaid p at pins l w
      other_said f = other_class (class_of k.key) f

    by_named : (t : Bool) → is_named k.key ≡ t → written n l (change_by p at k.key raw) (said p at pins l.says k.equals (change_by p at k.key raw)) ≡ Ok w → LineSaid p at pins l w
    unfolding change_by
    by_named true nm f =
        let v = value_read l.says k h reads nm in
        let e = (reads_named l.says k h (short_line l.says reads) v.0 nm v.1).1 in
        named_said v.0 v.1 e nm (subst (λ (o : Option (List ℕ)). written n l (change_with p at k.key o) (said p at pins l.says k.equals (change_with p at k.key o)) ≡ Ok w) v.1 f)
    by_named false nm f = other_said nm f

  by_keyed : (o : Option Keyed) → keyed l.says ≡ o → line_written_by p at pins n l o ≡ Ok w → LineSaid p at pins l w
  by_keyed None h f = kept_as None (no_entry l.says h) refl f
  by_keyed (Some k) h f = by_named k h (is_named k.key) refl f

  pub line_said : line_written p at pins n l ≡ Ok w → LineSaid p at pins l w
  unfolding line_written
  line_said f = by_keyed (keyed l.says) refl f
