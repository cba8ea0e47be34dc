-- What the lines say that are written, by what they said.
use Rattle.std.proofs.Common.{◌≡◌, ℕ, zero, suc, ◌+◌, ◌<◌, ◌≤◌, ◌==◌, List, [], ◌∷◌, ◌++◌, length, drop, true, false, Some, Result, refl, sym, ap, ◌∙◌, subst}
use Rattle.res_base.specs.Lists.{Each}
use Rattle.res_model.specs.Valid.{IsPrinting}
use Rattle.ioc_text.specs.Lines.{is_named, undone}
use Rattle.ioc_lines.specs.Entries.{Entry, Reads, entry_if, entry_of}
use Rattle.ioc_lines.specs.Lines.{IsClean, Keyed, escaped, keyed, last_dot, last_of, with_pin, with_value}
use Rattle.ioc_lines.proofs.DivideLemmas.{cut, key_stays, value_is, with_is}
use Rattle.ioc_lines.proofs.LineLemmas.{reads_named, reads_unnamed}
use Rattle.ioc_lines.proofs.NameLemmas.{name_read}
use Rattle.ioc_lines.proofs.PlainLemmas.{escaped_print, print_clean, print_last}
use Rattle.ioc_lines.proofs.TextCuts.{each_append, each_parts, last_behind}
use Rattle.ioc_lines.proofs.PartLemmas.{IsRenamed, is_renamed}
use Rattle.ioc_write.specs.declared.fault.BackFault.{BackFault}

abbrev pub Bytes : Type 0
Bytes = Result (List ℕ) BackFault

-- ---- what a line says anew

pub record NewLine (says s : List ℕ) (es : List Entry) : Type 0 where
  pub reads : Reads s
  pub clean : IsClean s
  pub cr : (last_of says == 13) ≡ false → (last_of s == 13) ≡ false
  pub is : entry_if (entry_of s) ≡ es

-- a value as it is written
pub record IsValue (value raw : List ℕ) : Type 0 where
  pub is : raw ≡ escaped value
  pub print : Each IsPrinting raw
  pub first : ℕ
  pub more : List ℕ
  pub some : raw ≡ first ∷ more

module _ (says : List ℕ) (k : Keyed) (h : keyed says ≡ Some k) (clean : IsClean says) where
  prefix_clean : IsClean (cut says k h).prefix × IsClean (61 ∷ (cut says k h).rest)
  prefix_clean = each_parts (λ (b : ℕ). (b == 10) ≡ false) (cut says k h).prefix (61 ∷ (cut says k h).rest) (subst IsClean (cut says k h).whole clean)

  -- another value
  pub value_line : (value raw : List ℕ) → IsValue value raw → is_named k.key ≡ true → length (with_value says k.equals raw) ≤ 65535 → NewLine says (with_value says k.equals raw) ((k.key, value) ∷ [])
  unfolding last_of
  value_line value raw v n short =
      let read : undone (drop (k.equals + 1) (with_value says k.equals raw)) ≡ Some value = ap undone (value_is says k h raw ∙ v.is) ∙ name_read value in
      let r = reads_named (with_value says k.equals raw) k (key_stays says k h raw) short value n read in
      let is = with_is says k h raw in
      let print : Each IsPrinting (v.first ∷ v.more) = subst (Each IsPrinting) v.some v.print in
      let ends : (last_of (61 ∷ raw) == 13) ≡ false = subst (λ (x : List ℕ). (last_of (61 ∷ x) == 13) ≡ false) (sym v.some) (print_last v.first v.more print) in
      record {
        reads = r.0;
        clean = subst IsClean (sym is) (each_append (λ (b : ℕ). (b == 10) ≡ false) (cut says k h).prefix (61 ∷ raw) prefix_clean.0 (refl, print_clean raw v.print));
        cr = λ _. ap (λ (x : List ℕ). last_of x == 13) is ∙ ap (λ (b : ℕ). b == 13) (last_behind (cut says k h).prefix 61 raw) ∙ ends;
        is = ap entry_if r.1;
      }

  -- another pin in the key
  module _ (dot : ℕ) (d : last_dot k.key ≡ Some dot) (name : List ℕ) (some : 0 < length name) (print : Each IsPrinting name) where
    abbrev anew : List ℕ
    anew = with_pin says k.equals (escaped name)

    new : IsRenamed says k h dot d name some
    new = is_renamed says k h dot d name some

    dropped : (n : ℕ) (bs : List ℕ) → IsClean bs → IsClean (drop n bs)
    dropped zero bs c = c
    dropped (suc n) [] c = tt
    dropped (suc n) (b ∷ bs) c = dropped n bs c.1

    anew_clean : IsClean anew
    anew_clean = subst IsClean (sym new.is)
        (each_append (λ (b : ℕ). (b == 10) ≡ false) (escaped name ++ drop new.cut_at (cut says k h).prefix) (61 ∷ (cut says k h).rest)
        (each_append (λ (b : ℕ). (b == 10) ≡ false) (escaped name) (drop new.cut_at (cut says k h).prefix) (print_clean (escaped name) (escaped_print name print)) (dropped new.cut_at (cut says k h).prefix prefix_clean.0)) prefix_clean.1)

    anew_cr : (last_of says == 13) ≡ false → (last_of anew == 13) ≡ false
    anew_cr e =
        let before : last_of says ≡ last_of (61 ∷ (cut says k h).rest) = ap last_of (cut says k h).whole ∙ last_behind (cut says k h).prefix 61 (cut says k h).rest in
        let after : last_of anew ≡ last_of (61 ∷ (cut says k h).rest) = ap last_of new.is ∙ last_behind (escaped name ++ drop new.cut_at (cut says k h).prefix) 61 (cut says k h).rest in
        ap (λ (b : ℕ). b == 13) (after ∙ sym before) ∙ e

    pub named_line : (value : List ℕ) → is_named (name ++ drop dot k.key) ≡ true → undone (drop (k.equals + 1) says) ≡ Some value → length anew ≤ 65535
        → NewLine says anew ((name ++ drop dot k.key, value) ∷ [])
    named_line value n v short =
        let r = reads_named anew new.by new.keyed_is short value (ap is_named new.key_is ∙ n) (ap undone new.raw_is ∙ v) in
        record { reads = r.0; clean = anew_clean; cr = anew_cr; is = ap entry_if r.1 ∙ ap (λ (x : List ℕ). (x, value) ∷ []) new.key_is }

    pub unnamed_line : is_named (name ++ drop dot k.key) ≡ false → length anew ≤ 65535 → NewLine says anew []
    unnamed_line n short =
        let r = reads_unnamed anew new.by new.keyed_is short (ap is_named new.key_is ∙ n) in
        record { reads = r.0; clean = anew_clean; cr = anew_cr; is = ap entry_if r.1 }
