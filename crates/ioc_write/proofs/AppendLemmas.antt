-- What is appended: lines of a key and a value each, and their entries.
use Rattle.std.proofs.Common.{◌≡◌, ℕ, suc, ◌+◌, ◌^◌, ◌<◌, ◌≤◌, ◌==◌, ◌&&◌, List, [], ◌∷◌, ◌++◌, length, true, false, not, cond, Option, Some, refl, sym, ap, ◌∙◌, subst, inl, inr, append_assoc, length-append, arith}
use Rattle.std.specs.Prelude.{codes, decimal, is_some, nat_le, nat_lt}
use Rattle.std.proofs.lemmas.Bool.Decides.{nat_tests}
use Rattle.std.proofs.lemmas.Fmt.{length-decimal-le}
use Rattle.res_base.specs.Lists.{Each}
use Rattle.res_base.proofs.SumLemmas.{bool_cases}
use Rattle.res_model.proofs.NumberLaws.{number_is}
use Rattle.res_model.specs.Clock.{IsInRange}
use Rattle.res_model.specs.Valid.{ArePins, IsPrinting, IsText}
use Rattle.res_model.specs.declared.clock.ClockChoice.{ClockChoice}
use Rattle.res_model.specs.declared.clock.Src.{Src}
use Rattle.res_model.specs.declared.clock.Src.TheVariants.{Hsi, Hse, Pll}
use Rattle.res_model.specs.declared.project.Signal.{Signal}
use Rattle.res_model.specs.declared.table.PinUse.{PinUse}
use Rattle.res_model.specs.declared.table.TableParts.{TableParts}
use Rattle.ioc_text.specs.Lines.{is_named, pin_number}
use Rattle.problem.specs.ClockValues.{clock_at}
use Rattle.problem.specs.declared.parts.ProblemParts.{ProblemParts}
use Rattle.ioc_lines.specs.Entries.{Entry, Reads, entries, entry_if, entry_of}
use Rattle.ioc_lines.specs.Lines.{IsClean, escaped, is_suffix, last_of}
use Rattle.ioc_lines.proofs.KeyLemmas.{named_by_rest}
use Rattle.ioc_lines.proofs.LineLemmas.{entry_reads}
use Rattle.ioc_lines.proofs.PlainLemmas.{IsPlain, all_plain, decimal_plain, escaped_append, escaped_long, escaped_print, escaped_some, plain_append, plain_print, plain_same, print_clean, print_last}
use Rattle.ioc_lines.proofs.TextCuts.{each_append, last_behind}
use Rattle.ioc_write.specs.WriteBack.{beginning, clock_entry, clock_key, clock_line, clock_lines, has_variable, is_away, needs_lines, pin_entry, pin_name, plain, signal_entry, source_text, spelled}
use Rattle.ioc_write.specs.declared.variable.Variable.{Variable}
use Rattle.ioc_write.specs.declared.variable.Variable.TheVariants as variable
use Rattle.ioc_write.proofs.LineBack.{spelled_value}
use Rattle.ioc_write.proofs.LineChanges.{IsValue}
use Rattle.ioc_write.proofs.NamedLemmas.{named_clock, named_pin}
use Rattle.ioc_write.proofs.PinNames.{begins_with_p, pin_at}
use Rattle.ioc_write.proofs.TextBack.{IsAdded, added, flat_append}

-- a line of an entry
abbrev pub text_of : Entry → List ℕ
text_of e = escaped e.0 ++ 61 ∷ escaped e.1

abbrev pub texts_of : List Entry → List (List ℕ)
texts_of [] = []
texts_of (e ∷ es) = text_of e ∷ texts_of es

-- an entry that can be written and read
pub record IsEntry (e : Entry) : Type 0 where
  pub named : is_named e.0 ≡ true
  pub key : Each IsPrinting e.0
  pub value : Each IsPrinting e.1
  pub key_some : 0 < length e.0
  pub value_some : 0 < length e.1
  pub short : length e.0 + length e.1 ≤ 2000

module _ (e : Entry) (is : IsEntry e) where
  short_text : length (text_of e) ≤ 65535
  short_text =
      let a = escaped_long e.0 in
      let b = escaped_long e.1 in
      let n = length-append (escaped e.0) (61 ∷ escaped e.1) in
      let s = is.short in
      omega (arith, a, b, n, s)

  reads_text : Reads (text_of e) × (entry_of (text_of e) ≡ Some (e.0, e.1))
  reads_text = entry_reads e.0 e.1 is.key_some is.named short_text

  text_clean : IsClean (text_of e)
  text_clean = each_append (λ (b : ℕ). (b == 10) ≡ false) (escaped e.0) (61 ∷ escaped e.1) (print_clean (escaped e.0) (escaped_print e.0 is.key)) (refl, print_clean (escaped e.1) (escaped_print e.1 is.value))

ends_plain : (v : List ℕ) → 0 < length v → Each IsPrinting v → (last_of (61 ∷ escaped v) == 13) ≡ false
unfolding last_of
ends_plain [] l h = absurd (omega arith)
ends_plain (b ∷ bs) l h =
    let s = escaped_some b bs in
    let print : Each IsPrinting (s.0 ∷ s.1) = subst (Each IsPrinting) s.2 (escaped_print (b ∷ bs) h) in
    subst (λ (x : List ℕ). (last_of (61 ∷ x) == 13) ≡ false) (sym s.2) (print_last s.0 s.1 print)

pub is_added : (e : Entry) → IsEntry e → IsAdded (text_of e)
is_added e is = record {
  clean = text_clean e is;
  cr = ap (λ (b : ℕ). b == 13) (last_behind (escaped e.0) 61 (escaped e.1)) ∙ ends_plain e.1 is.value_some is.value;
  reads = (reads_text e is).0;
}

pub are_added : (es : List Entry) → Each IsEntry es → Each IsAdded (texts_of es)
are_added [] h = tt
are_added (e ∷ es) h = (is_added e h.0, are_added es h.1)

pub entries_of_texts : (es : List Entry) → Each IsEntry es → entries (texts_of es) ≡ es
entries_of_texts [] h = refl
entries_of_texts (e ∷ es) h = ap (λ (o : Option Entry). entry_if o ++ entries (texts_of es)) (reads_text e h.0).1 ∙ ap (λ (x : List Entry). e ∷ x) (entries_of_texts es h.1)

texts_append : (es fs : List Entry) → texts_of (es ++ fs) ≡ texts_of es ++ texts_of fs
texts_append [] fs = refl
texts_append (e ∷ es) fs = ap (λ (x : List (List ℕ)). text_of e ∷ x) (texts_append es fs)

pub added_append : (es fs : List Entry) → added (texts_of (es ++ fs)) ≡ added (texts_of es) ++ added (texts_of fs)
added_append es fs = ap added (texts_append es fs) ∙ flat_append (λ (a : List ℕ). a ++ 10 ∷ []) (texts_of es) (texts_of fs)

-- ---- needs

abbrev pub pin_key : ℕ → List ℕ
pin_key k = codes "Mcu.Pin" ++ decimal k

abbrev pub signal_key : List ℕ → List ℕ
signal_key pin = pin ++ codes ".Signal"

abbrev pub need_entries : TableParts → ℕ → List Signal → List PinUse → List Entry
need_entries t k [] us = []
need_entries t k (s ∷ ss) [] = []
need_entries t k (s ∷ ss) (u ∷ us) =
    cond s.need ((pin_key k, pin_name t u.pin) ∷ (signal_key (pin_name t u.pin), s.name) ∷ need_entries t (k + 1) ss us) (need_entries t k ss us)

pub number_of_key : (k : ℕ) → k < 2 ^ 64 → pin_number (pin_key k) ≡ Some k
unfolding pin_number
number_of_key k l = number_is (decimal k) k l refl

pin_plain : (k : ℕ) → k < 2 ^ 64 → IsPlain (pin_key k)
pin_plain k l = plain_append (codes "Mcu.Pin") (decimal k) (all_plain (codes "Mcu.Pin") refl) (decimal_plain k l)

pin_line : (k : ℕ) (pin : List ℕ) → k < 2 ^ 64 → pin_entry k pin ≡ text_of (pin_key k, pin) ++ 10 ∷ []
unfolding pin_entry
pin_line k pin l =
    ap (λ (x : List ℕ). x ++ 10 ∷ []) (append_assoc (pin_key k) (61 ∷ []) (escaped pin) ∙ ap (λ (x : List ℕ). x ++ 61 ∷ escaped pin) (sym (plain_same (pin_key k) (pin_plain k l))))

signal_line : (pin signal : List ℕ) → signal_entry pin signal ≡ text_of (signal_key pin, signal) ++ 10 ∷ []
unfolding signal_entry
signal_line pin signal =
    ap (λ (x : List ℕ). (x ++ escaped signal) ++ 10 ∷ []) (sym (append_assoc (escaped pin) (codes ".Signal") (61 ∷ [])))
    ∙ ap (λ (x : List ℕ). x ++ 10 ∷ []) (append_assoc (escaped pin ++ codes ".Signal") (61 ∷ []) (escaped signal)
    ∙ ap (λ (x : List ℕ). x ++ 61 ∷ escaped signal) (ap (λ (x : List ℕ). escaped pin ++ x) (sym (plain_same (codes ".Signal") (all_plain (codes ".Signal") refl))) ∙ sym (escaped_append pin (codes ".Signal"))))

-- how many needs there are
abbrev pub needs_in : List Signal → ℕ
needs_in [] = 0
needs_in (s ∷ ss) = cond s.need (suc (needs_in ss)) (needs_in ss)

pub needs_added : (t : TableParts) (ss : List Signal) (us : List PinUse) (k : ℕ) → k + needs_in ss ≤ 2 ^ 64 → needs_lines t k ss us ≡ added (texts_of (need_entries t k ss us))
needs_added t [] us k l = refl
needs_added t (s ∷ ss) [] k l = refl
needs_added t (s ∷ ss) (u ∷ us) k l = elim (bool_cases s.need) [
  | inl y ↦
      let room : k + suc (needs_in ss) ≤ 2 ^ 64 = rw y at l in
      let pin = pin_name t u.pin in
      let one = pin_line k pin (omega (arith, room)) in
      let two = signal_line pin s.name in
      let more = needs_added t ss us (k + 1) (omega (arith, room)) in
      let rest = added (texts_of (need_entries t (k + 1) ss us)) in
      let all : (pin_entry k pin ++ signal_entry pin s.name) ++ needs_lines t (k + 1) ss us ≡ (text_of (pin_key k, pin) ++ 10 ∷ []) ++ ((text_of (signal_key pin, s.name) ++ 10 ∷ []) ++ rest) =
      ap (λ (x : List ℕ). (pin_entry k pin ++ signal_entry pin s.name) ++ x) more ∙ append_assoc (pin_entry k pin) (signal_entry pin s.name) rest
      ∙ ap (λ (x : List ℕ). x ++ (signal_entry pin s.name ++ rest)) one ∙ ap (λ (x : List ℕ). (text_of (pin_key k, pin) ++ 10 ∷ []) ++ (x ++ rest)) two in
      rw y all
  | inr n ↦ let room : k + needs_in ss ≤ 2 ^ 64 = rw n at l in rw n (needs_added t ss us k room)
]

-- names of needs are texts, and their uses are at pins of the table
abbrev pub NeedsAre : TableParts → List Signal → List PinUse → Type 0
NeedsAre t [] us = Unit {0}
NeedsAre t (s ∷ ss) [] = Unit {0}
NeedsAre t (s ∷ ss) (u ∷ us) = ((s.need ≡ true → IsText s.name) × (u.pin < length t.pins)) × NeedsAre t ss us

module _ (t : TableParts) (are : ArePins t.pins) where
  pin_is : (k q : ℕ) → k < 2 ^ 64 → q < length t.pins → IsEntry (pin_key k, pin_name t q)
  pin_is k q l i =
      let r = pin_at t are q i in
      let long = length-append (codes "Mcu.Pin") (decimal k) in
      let seven : length (codes "Mcu.Pin") ≡ 7 = refl in
      let few : k < 10 ^ 20 = omega (arith, l) in
      let digits = length-decimal-le 20 k (omega arith) few l in
      let name = r.is.text in
      let short : length (pin_name t q) ≤ 64 = subst (λ (x : List ℕ). length x ≤ 64) (sym r.name) name.short in
      let some : 1 ≤ length (pin_name t q) = subst (λ (x : List ℕ). 1 ≤ length x) (sym r.name) name.some_byte in
      record {
        named = named_pin (pin_key k) (ap is_some (number_of_key k l));
        key = plain_print (pin_key k) (pin_plain k l);
        value = subst (Each IsPrinting) (sym r.name) name.printing;
        key_some = omega arith;
        value_some = omega (arith, some);
        short = omega (arith, long, seven, digits, short);
      }

  suffix_named : is_suffix (codes ".Signal") ≡ true
  suffix_named = refl

  signal_is : (q : ℕ) (name : List ℕ) → q < length t.pins → IsText name → IsEntry (signal_key (pin_name t q), name)
  signal_is q name i x =
      let r = pin_at t are q i in
      let b = begins_with_p t are q i in
      let long = length-append (pin_name t q) (codes ".Signal") in
      let seven : length (codes ".Signal") ≡ 7 = refl in
      let short : length (pin_name t q) ≤ 64 = subst (λ (y : List ℕ). length y ≤ 64) (sym r.name) r.is.text.short in
      let few = x.short in
      let some = x.some_byte in
      record {
        named = named_by_rest (pin_name t q) (codes "Signal") b.0 b.1 refl ∙ suffix_named;
        key = each_append IsPrinting (pin_name t q) (codes ".Signal") (subst (Each IsPrinting) (sym r.name) r.is.text.printing) (plain_print (codes ".Signal") (all_plain (codes ".Signal") refl));
        value = x.printing;
        key_some = omega (arith, long, seven);
        value_some = omega (arith, some);
        short = omega (arith, long, seven, short, few);
      }

  pub needs_are : (ss : List Signal) (us : List PinUse) (k : ℕ) → k + needs_in ss ≤ 2 ^ 64 → NeedsAre t ss us → Each IsEntry (need_entries t k ss us)
  needs_are [] us k l h = tt
  needs_are (s ∷ ss) [] k l h = tt
  needs_are (s ∷ ss) (u ∷ us) k l h = elim (bool_cases s.need) [
    | inl y ↦
        let room : k + suc (needs_in ss) ≤ 2 ^ 64 = rw y at l in
        rw y (pin_is k u.pin (omega (arith, room)) h.0.1, (signal_is u.pin s.name h.0.1 (h.0.0 y), needs_are ss us (k + 1) (omega (arith, room)) h.1))
    | inr n ↦ let room : k + needs_in ss ≤ 2 ^ 64 = rw n at l in rw n (needs_are ss us k room h.1)
  ]

-- ---- clock variables

abbrev pub clock_entries : ProblemParts → List ℕ → List Variable → List Variable → List Entry
clock_entries p at keys [] = []
clock_entries p at keys (v ∷ vs) = cond (is_away p at v && not (has_variable keys v)) ((clock_key v, spelled (clock_at p.clock at) v) ∷ clock_entries p at keys vs) (clock_entries p at keys vs)

key_plain : (v : Variable) → IsPlain (clock_key v)
key_plain variable.System = all_plain (codes "RCC.SYSCLKSource") refl
key_plain variable.Input = all_plain (codes "RCC.PLLSourceVirtual") refl
key_plain variable.Ahb = all_plain (codes "RCC.AHBCLKDivider") refl
key_plain variable.P = all_plain (codes "RCC.PLLP") refl
key_plain variable.M = all_plain (codes "RCC.PLLM") refl
key_plain variable.N = all_plain (codes "RCC.PLLN") refl
key_plain variable.Q = all_plain (codes "RCC.PLLQ") refl
key_plain variable.Apb1 = all_plain (codes "RCC.APB1CLKDivider") refl
key_plain variable.Apb2 = all_plain (codes "RCC.APB2CLKDivider") refl

less : (a b : ℕ) → nat_lt a b ≡ true → a < b
less a b e = grind (arith, nat_tests)

at_most : (a b : ℕ) → nat_le a b ≡ true → a ≤ b
at_most a b e = grind (arith, nat_tests)

key_long : (v : Variable) → (0 < length (clock_key v)) × (length (clock_key v) ≤ 30)
key_long variable.System = (less 0 (length (codes "RCC.SYSCLKSource")) refl, at_most (length (codes "RCC.SYSCLKSource")) 30 refl)
key_long variable.Input = (less 0 (length (codes "RCC.PLLSourceVirtual")) refl, at_most (length (codes "RCC.PLLSourceVirtual")) 30 refl)
key_long variable.Ahb = (less 0 (length (codes "RCC.AHBCLKDivider")) refl, at_most (length (codes "RCC.AHBCLKDivider")) 30 refl)
key_long variable.P = (less 0 (length (codes "RCC.PLLP")) refl, at_most (length (codes "RCC.PLLP")) 30 refl)
key_long variable.M = (less 0 (length (codes "RCC.PLLM")) refl, at_most (length (codes "RCC.PLLM")) 30 refl)
key_long variable.N = (less 0 (length (codes "RCC.PLLN")) refl, at_most (length (codes "RCC.PLLN")) 30 refl)
key_long variable.Q = (less 0 (length (codes "RCC.PLLQ")) refl, at_most (length (codes "RCC.PLLQ")) 30 refl)
key_long variable.Apb1 = (less 0 (length (codes "RCC.APB1CLKDivider")) refl, at_most (length (codes "RCC.APB1CLKDivider")) 30 refl)
key_long variable.Apb2 = (less 0 (length (codes "RCC.APB2CLKDivider")) refl, at_most (length (codes "RCC.APB2CLKDivider")) 30 refl)

clock_text : (v : Variable) (value : List ℕ) → IsValue value value → clock_entry v value ≡ text_of (clock_key v, value) ++ 10 ∷ []
unfolding clock_entry
clock_text v value i =
    ap (λ (x : List ℕ). x ++ 10 ∷ []) (append_assoc (clock_key v) (61 ∷ []) value
    ∙ ap (λ (x : List ℕ). clock_key v ++ 61 ∷ x) i.is ∙ ap (λ (x : List ℕ). x ++ 61 ∷ escaped value) (sym (plain_same (clock_key v) (key_plain v))))

pub clocks_added : (p : ProblemParts) (at : List ℕ) (keys : List Variable) → IsInRange (clock_at p.clock at) → (vs : List Variable) → clock_lines p at keys vs ≡ added (texts_of (clock_entries p at keys vs))
unfolding clock_line
clocks_added p at keys r [] = refl
clocks_added p at keys r (v ∷ vs) = elim (bool_cases (is_away p at v && not (has_variable keys v))) [
  | inl y ↦ rw y (ap (λ (x : List ℕ). x ++ clock_lines p at keys vs) (clock_text v (spelled (clock_at p.clock at) v) (spelled_value (clock_at p.clock at) r v))
      ∙ ap (λ (x : List ℕ). (text_of (clock_key v, spelled (clock_at p.clock at) v) ++ 10 ∷ []) ++ x) (clocks_added p at keys r vs))
  | inr n ↦ rw n (clocks_added p at keys r vs)
]

some_length : (xs : List ℕ) (b : ℕ) (bs : List ℕ) → xs ≡ b ∷ bs → 0 < length xs
some_length xs b bs e = subst (λ (x : List ℕ). 0 < length x) (sym e) (omega arith)

clock_is : (v : Variable) (value : List ℕ) → IsValue value value → length value ≤ 100 → IsEntry (clock_key v, value)
clock_is v value i l =
    let k = key_long v in
    let some = some_length value i.first i.more i.some in
    let low = k.0 in
    let high = k.1 in
    record {
      named = named_clock v;
      key = plain_print (clock_key v) (key_plain v);
      value = i.print;
      key_some = low;
      value_some = some;
      short = omega (arith, high, l);
    }

short_number : (n : ℕ) → n ≤ 65535 → length (decimal n) ≤ 5
short_number n l = let a : n < 10 ^ 5 = omega (arith, l) in let b : n < 2 ^ 64 = omega (arith, l) in length-decimal-le 5 n (omega arith) a b

short_source : (s : Src) → length (source_text s) ≤ 10
short_source Hsi = at_most (length (codes "HSI")) 10 refl
short_source Hse = at_most (length (codes "HSE")) 10 refl
short_source Pll = at_most (length (codes "PLLCLK")) 10 refl

module _ (c : ClockChoice) (r : IsInRange c) where
  short_plain : (v : Variable) → length (plain c v) ≤ 10
  short_plain variable.System = short_source c.src
  short_plain variable.Input = short_source c.psrc
  short_plain variable.Ahb = let l = r.hpre.1 in let s = short_number c.hpre (omega (arith, l)) in omega (arith, s)
  short_plain variable.P = let l = r.p.1 in let s = short_number c.p (omega (arith, l)) in omega (arith, s)
  short_plain variable.M = let l = r.m.1 in let s = short_number c.m (omega (arith, l)) in omega (arith, s)
  short_plain variable.N = let l = r.n.1 in let s = short_number c.n (omega (arith, l)) in omega (arith, s)
  short_plain variable.Q = let l = r.q.1 in let s = short_number c.q (omega (arith, l)) in omega (arith, s)
  short_plain variable.Apb1 = let l = r.ppre1.1 in let s = short_number c.ppre1 (omega (arith, l)) in omega (arith, s)
  short_plain variable.Apb2 = let l = r.ppre2.1 in let s = short_number c.ppre2 (omega (arith, l)) in omega (arith, s)

  short_beginning : (v : Variable) → length (beginning v) ≤ 30
  short_beginning variable.System = at_most (length (codes "RCC_SYSCLKSOURCE_")) 30 refl
  short_beginning variable.Input = at_most (length (codes "RCC_PLLSOURCE_")) 30 refl
  short_beginning variable.Ahb = at_most (length (codes "RCC_SYSCLK_DIV")) 30 refl
  short_beginning variable.P = at_most (length (codes "RCC_PLLP_DIV")) 30 refl
  short_beginning variable.M = omega arith
  short_beginning variable.N = omega arith
  short_beginning variable.Q = omega arith
  short_beginning variable.Apb1 = at_most (length (codes "RCC_HCLK_DIV")) 30 refl
  short_beginning variable.Apb2 = at_most (length (codes "RCC_HCLK_DIV")) 30 refl

  spelled_short : (v : Variable) → length (spelled c v) ≤ 100
  unfolding spelled
  spelled_short v =
      let a = short_beginning v in
      let b = short_plain v in
      let n = length-append (beginning v) (plain c v) in
      omega (arith, a, b, n)

pub clocks_are : (p : ProblemParts) (at : List ℕ) (keys : List Variable) → IsInRange (clock_at p.clock at) → (vs : List Variable) → Each IsEntry (clock_entries p at keys vs)
clocks_are p at keys r [] = tt
clocks_are p at keys r (v ∷ vs) = elim (bool_cases (is_away p at v && not (has_variable keys v))) [
  | inl y ↦ rw y (clock_is v (spelled (clock_at p.clock at) v) (spelled_value (clock_at p.clock at) r v) (spelled_short (clock_at p.clock at) r v), clocks_are p at keys r vs)
  | inr n ↦ rw n (clocks_are p at keys r vs)
]
