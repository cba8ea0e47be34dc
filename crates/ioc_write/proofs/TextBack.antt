-- The lines of the text that is written, and their entries.
use Rattle.std.proofs.Common.{◌≡◌, ◌⊎◌, ℕ, ◌+◌, ◌^◌, ◌<◌, ◌==◌, List, [], ◌∷◌, ◌++◌, map, Bool, true, false, cond, Option, Some, None, Ok, refl, sym, ap, ◌∙◌, subst, inl, inr, append_assoc, append-nil}
use Rattle.std.specs.List.{flat_map}
use Rattle.std.specs.Str.Lines.{lines, strip_carriage_return}
use Rattle.res_base.specs.Lists.{Each}
use Rattle.res_model.specs.Clock.{IsInRange}
use Rattle.res_model.specs.Steps.{◌>>=◌}
use Rattle.problem.specs.ClockValues.{clock_at}
use Rattle.problem.specs.declared.parts.ProblemParts.{ProblemParts}
use Rattle.ioc_lines.specs.Entries.{Entry, Near, NearIf, Reads, entries, entry_if, entry_of}
use Rattle.ioc_lines.specs.Lines.{IsClean, IsEnded, TextLine, last_of, text_line, unended}
use Rattle.ioc_lines.proofs.EntryLemmas.{both}
use Rattle.ioc_lines.proofs.LineLemmas.{cr_line}
use Rattle.ioc_lines.proofs.TextCuts.{cr_behind, each_append, ended_lines, if_any, line_last, line_then, no_tail, says_on, slice_last, strip_plain}
use Rattle.ioc_lines.proofs.TextLemmas.{whole}
use Rattle.ioc_write.specs.Reading.{changed}
use Rattle.ioc_write.specs.WriteBack.{followed_by, line_written, lines_written}
use Rattle.ioc_write.proofs.ChangeLemmas.{IsSet}
use Rattle.ioc_write.proofs.LineBack.{LineSaid, is_anew, is_gone, line_said, same_ok}
use Rattle.ioc_write.proofs.LineChanges.{Bytes}

pub flat_append : {X Y : Type 0} (f : X → List Y) (xs ys : List X) → flat_map f (xs ++ ys) ≡ flat_map f xs ++ flat_map f ys
flat_append f [] ys = refl
flat_append f (x ∷ xs) ys = ap (λ l. f x ++ l) (flat_append f xs ys) ∙ sym (append_assoc (f x) (flat_map f xs) (flat_map f ys))

pub empty_entry : entry_of [] ≡ None
unfolding entry_of
empty_entry = refl

-- ---- line by line

pub record IsWritten (p : ProblemParts) (at : List ℕ) (pins : ℕ) (prefix : List TextLine) (tail out : List ℕ) : Type 0 where
  pub lines : List TextLine
  pub rest : List ℕ
  pub bytes : out ≡ flat_map whole lines ++ rest
  pub ended : Each IsEnded lines
  pub clean : IsClean rest
  pub reads : Each Reads (map says_on lines)
  pub last : Reads rest
  pub is : entries (map says_on lines) ++ entry_if (entry_of rest) ≡ flat_map (changed p at pins) (entries (map says_on prefix) ++ entry_if (entry_of tail))

module _ (p : ProblemParts) (at : List ℕ) (pins : ℕ) (set : IsSet p at) (range : IsInRange (clock_at p.clock at)) (few : pins < 2 ^ 64) where
  abbrev out_of : List Entry → List Entry
  out_of es = flat_map (changed p at pins) es

  none_left : out_of (entry_if (entry_of [])) ≡ []
  none_left = ap (λ (o : Option Entry). out_of (entry_if o)) empty_entry

  last_line : (tail w out : List ℕ) → LineSaid p at pins (text_line tail []) w → (let r : Bytes = Ok (w ++ []) in r) ≡ Ok out → Reads [] → IsWritten p at pins [] tail out
  last_line tail w out (is_gone e h) f r =
      let is : out ≡ [] = sym (same_ok (w ++ []) out f) ∙ append-nil w ∙ e in
      record { lines = []; rest = []; bytes = is; ended = tt; clean = tt; reads = tt; last = r; is = ap entry_if empty_entry ∙ sym h }
  last_line tail w out (is_anew s e h) f r =
      let is : out ≡ s = sym (same_ok (w ++ []) out f) ∙ append-nil w ∙ e ∙ append-nil s in
      record { lines = []; rest = s; bytes = is; ended = tt; clean = h.clean; reads = tt; last = h.reads; is = h.is }

  more_lines : (l : TextLine) (prefix : List TextLine) (tail w more out : List ℕ) → IsEnded l → LineSaid p at pins l w → IsWritten p at pins prefix tail more → out ≡ w ++ more → IsWritten p at pins (l ∷ prefix) tail out
  more_lines l prefix tail w more out i (is_gone e h) r q = record {
    lines = r.lines;
    rest = r.rest;
    bytes = q ∙ ap (λ (x : List ℕ). x ++ more) e ∙ r.bytes;
    ended = r.ended;
    clean = r.clean;
    reads = r.reads;
    last = r.last;
    is = r.is ∙ sym (ap out_of (append_assoc (entry_if (entry_of l.says)) (entries (map says_on prefix)) (entry_if (entry_of tail)))
        ∙ flat_append (changed p at pins) (entry_if (entry_of l.says)) (entries (map says_on prefix) ++ entry_if (entry_of tail))
        ∙ ap (λ (x : List Entry). x ++ out_of (entries (map says_on prefix) ++ entry_if (entry_of tail))) h);
  }
  more_lines l prefix tail w more out i (is_anew s e h) r q = record {
    lines = text_line s l.end ∷ r.lines;
    rest = r.rest;
    bytes = q ∙ ap (λ (x : List ℕ). x ++ more) e ∙ ap (λ (x : List ℕ). (s ++ l.end) ++ x) r.bytes ∙ sym (append_assoc (s ++ l.end) (flat_map whole r.lines) r.rest);
    ended = (record { clean = h.clean; by = ends i.by }, r.ended);
    clean = r.clean;
    reads = (h.reads, r.reads);
    last = r.last;
    is = append_assoc (entry_if (entry_of s)) (entries (map says_on r.lines)) (entry_if (entry_of r.rest))
        ∙ ap (λ (x : List Entry). entry_if (entry_of s) ++ x) r.is
        ∙ ap (λ (x : List Entry). x ++ out_of (entries (map says_on prefix) ++ entry_if (entry_of tail))) h.is
        ∙ sym (ap out_of (append_assoc (entry_if (entry_of l.says)) (entries (map says_on prefix)) (entry_if (entry_of tail)))
        ∙ flat_append (changed p at pins) (entry_if (entry_of l.says)) (entries (map says_on prefix) ++ entry_if (entry_of tail)));
  }
    where
      ends : ((l.end ≡ 10 ∷ []) × ((last_of l.says == 13) ≡ false)) ⊎ (l.end ≡ 13 ∷ 10 ∷ []) → ((l.end ≡ 10 ∷ []) × ((last_of s == 13) ≡ false)) ⊎ (l.end ≡ 13 ∷ 10 ∷ [])
      ends (inl x) = inl (x.0, h.cr x.1)
      ends (inr x) = inr x

  by_tail : (n : ℕ) (tail out : List ℕ) → IsClean tail → Reads tail → Reads [] → lines_written p at pins n (unended tail) ≡ Ok out → IsWritten p at pins [] tail out
  by_tail n [] out c r q e = record { lines = []; rest = []; bytes = sym (same_ok [] out e); ended = tt; clean = tt; reads = tt; last = q; is = ap entry_if empty_entry ∙ sym none_left }
  by_tail n (b ∷ bs) out c r q e =
      let l = text_line (b ∷ bs) [] in
      let s = both (line_written p at pins n l) (λ prefix. Ok (prefix ++ [])) out e in
      last_line (b ∷ bs) s.0 out (line_said p at pins set range few n l r c s.0 s.1) s.2 q

  pub written : (prefix : List TextLine) (tail : List ℕ) (n : ℕ) (out : List ℕ) → Each IsEnded prefix → IsClean tail → Each Reads (map says_on prefix) → Reads tail → Reads []
      → lines_written p at pins n (prefix ++ unended tail) ≡ Ok out → IsWritten p at pins prefix tail out
  written [] tail n out i c r t q e = by_tail n tail out c t q e
  written (l ∷ prefix) tail n out i c r t q e =
      let s = both (line_written p at pins n l) (λ w. lines_written p at pins (n + 1) (prefix ++ unended tail) >>= (λ more. Ok (w ++ more))) out e in
      let m = both (lines_written p at pins (n + 1) (prefix ++ unended tail)) (λ more. Ok (s.0 ++ more)) out s.2 in
      more_lines l prefix tail s.0 m.0 out i.0 (line_said p at pins set range few n l r.0 i.0.clean s.0 s.1)
      (written prefix tail (n + 1) m.0 i.1 c r.1 t q m.1) (sym (same_ok (s.0 ++ m.0) out m.2))

-- ---- lines that are appended

abbrev pub added : List (List ℕ) → List ℕ
added als = flat_map (λ (a : List ℕ). a ++ 10 ∷ []) als

pub record IsAdded (a : List ℕ) : Type 0 where
  pub clean : IsClean a
  pub cr : (last_of a == 13) ≡ false
  pub reads : Reads a

added_lines : (als : List (List ℕ)) → Each IsAdded als → lines (added als) ≡ als
added_lines [] h = refl
added_lines (a ∷ als) h =
    ap lines (append_assoc a (10 ∷ []) (added als)) ∙ line_then a (added als) h.0.clean ∙ ap (λ (x : List ℕ). x ∷ lines (added als)) (strip_plain a h.0.cr) ∙ ap (λ (x : List (List ℕ)). a ∷ x) (added_lines als h.1)

added_some : (a : List ℕ) (als : List (List ℕ)) → (b : ℕ) × (bs : List ℕ) × (added (a ∷ als) ≡ b ∷ bs)
added_some [] als = (10, added als, refl)
added_some (b ∷ bs) als = (b, (bs ++ 10 ∷ []) ++ added als, refl)

followed : (prefix xs : List ℕ) (b : ℕ) (bs : List ℕ) → xs ≡ b ∷ bs → followed_by prefix xs ≡ cond (last_of prefix == 10) (prefix ++ xs) (prefix ++ 10 ∷ xs)
followed prefix xs b bs e =
    ap (followed_by prefix) e ∙ ap (λ (n : ℕ). cond (n == 10) (prefix ++ b ∷ bs) (prefix ++ 10 ∷ b ∷ bs)) (slice_last prefix)
    ∙ ap (λ (x : List ℕ). cond (last_of prefix == 10) (prefix ++ x) (prefix ++ 10 ∷ x)) (sym e)

-- each entry, or that with a CR behind its value
abbrev pub NearAll : List Entry → List Entry → Type 0
NearAll [] [] = Unit {0}
NearAll [] (f ∷ fs) = ⊥
NearAll (e ∷ es) [] = ⊥
NearAll (e ∷ es) (f ∷ fs) = ((e.0 ≡ f.0) × Near e.1 f.1) × NearAll es fs

near_same : (es : List Entry) → NearAll es es
near_same [] = tt
near_same (e ∷ es) = ((refl, inl refl), near_same es)

near_last : (es : List Entry) (o u : Option Entry) → NearIf o u → NearAll (es ++ entry_if o) (es ++ entry_if u)
near_last [] None None h = tt
near_last [] None (Some f) h = absurd h
near_last [] (Some e) None h = absurd h
near_last [] (Some e) (Some f) h = (h, tt)
near_last (e ∷ es) o u h = ((refl, inl refl), near_last es o u h)

entries_append : (ls ms : List (List ℕ)) → entries (ls ++ ms) ≡ entries ls ++ entries ms
entries_append [] ms = refl
entries_append (l ∷ ls) ms = ap (λ (es : List Entry). entry_if (entry_of l) ++ es) (entries_append ls ms) ∙ sym (append_assoc (entry_if (entry_of l)) (entries ls) (entries ms))

-- what the whole says
pub record IsClosed (es : List Entry) (als : List (List ℕ)) (out : List ℕ) : Type 0 where
  pub says : List (List ℕ)
  pub lines_are : lines out ≡ says
  pub reads : Each Reads says
  pub prefix : List Entry
  pub near : NearAll es prefix
  pub is : entries says ≡ prefix ++ entries als

reads_on : (als : List (List ℕ)) → Each IsAdded als → Each Reads als
reads_on [] h = tt
reads_on (a ∷ als) h = (h.0.reads, reads_on als h.1)

module _ (ls : List TextLine) (rest : List ℕ) (ended : Each IsEnded ls) (clean : IsClean rest) (reads : Each Reads (map says_on ls)) (last : Reads rest) where
  abbrev all : List Entry
  all = entries (map says_on ls) ++ entry_if (entry_of rest)

  -- with nothing behind it
  pub tail_says : (xs : List ℕ) → Reads xs → Each Reads (if_any xs) × (entries (if_any xs) ≡ entry_if (entry_of xs))
  tail_says [] r = (tt, sym (ap entry_if empty_entry))
  tail_says (b ∷ bs) r = ((r, tt), append-nil (entry_if (entry_of (b ∷ bs))))

  alone : IsClosed all [] (flat_map whole ls ++ rest)
  alone =
      let t = tail_says rest last in
      record {
        says = map says_on ls ++ if_any rest;
        lines_are = ended_lines ls rest ended ∙ ap (λ (x : List (List ℕ)). map says_on ls ++ x) (line_last rest clean);
        reads = each_append Reads (map says_on ls) (if_any rest) reads t.0;
        prefix = all;
        near = near_same all;
        is = entries_append (map says_on ls) (if_any rest) ∙ ap (λ (x : List Entry). entries (map says_on ls) ++ x) t.1 ∙ sym (append-nil all);
      }

  module _ (als : List (List ℕ)) (are : Each IsAdded als) where
    -- behind a line that ends
    behind : rest ≡ [] → IsClosed all als ((flat_map whole ls ++ rest) ++ added als)
    behind e = record {
      says = map says_on ls ++ als;
      lines_are =
          ap (λ (x : List ℕ). lines ((flat_map whole ls ++ x) ++ added als)) e ∙ ap (λ (x : List ℕ). lines (x ++ added als)) (append-nil (flat_map whole ls))
          ∙ ended_lines ls (added als) ended ∙ ap (λ (x : List (List ℕ)). map says_on ls ++ x) (added_lines als are);
      reads = each_append Reads (map says_on ls) als reads (reads_on als are);
      prefix = entries (map says_on ls);
      near = subst (λ (x : List Entry). NearAll x (entries (map says_on ls))) (sym (ap (λ (x : List ℕ). entries (map says_on ls) ++ entry_if (entry_of x)) e
          ∙ ap (λ (o : Option Entry). entries (map says_on ls) ++ entry_if o) empty_entry ∙ append-nil (entries (map says_on ls)))) (near_same (entries (map says_on ls)));
      is = entries_append (map says_on ls) als;
    }

    -- the last line gets its end
    cut_tail : (t : Bool) → (last_of rest == 13) ≡ t → Reads (strip_carriage_return rest) × NearIf (entry_of rest) (entry_of (strip_carriage_return rest))
    cut_tail true e =
        let is = cr_behind rest e in
        let r = cr_line (strip_carriage_return rest) (subst Reads is last) in
        (r.0, subst (λ (x : List ℕ). NearIf (entry_of x) (entry_of (strip_carriage_return rest))) (sym is) r.1)
    cut_tail false e =
        let is = strip_plain rest e in
        (subst Reads (sym is) last, subst (λ (x : List ℕ). NearIf (entry_of rest) (entry_of x)) (sym is) (near_itself (entry_of rest)))
      where
        near_itself : (o : Option Entry) → NearIf o o
        near_itself None = tt
        near_itself (Some e) = (refl, inl refl)

    closed : IsClosed all als ((flat_map whole ls ++ rest) ++ 10 ∷ added als)
    closed =
        let cut = cut_tail (last_of rest == 13) refl in
        let s = strip_carriage_return rest in
        record {
          says = map says_on ls ++ s ∷ als;
          lines_are =
              ap lines (append_assoc (flat_map whole ls) rest (10 ∷ added als)) ∙ ended_lines ls (rest ++ 10 ∷ added als) ended
              ∙ ap (λ (x : List (List ℕ)). map says_on ls ++ x) (line_then rest (added als) clean ∙ ap (λ (x : List (List ℕ)). s ∷ x) (added_lines als are));
          reads = each_append Reads (map says_on ls) (s ∷ als) reads (cut.0, reads_on als are);
          prefix = entries (map says_on ls) ++ entry_if (entry_of s);
          near = near_last (entries (map says_on ls)) (entry_of rest) (entry_of s) cut.1;
          is = entries_append (map says_on ls) (s ∷ als) ∙ sym (append_assoc (entries (map says_on ls)) (entry_if (entry_of s)) (entries als));
        }

    by_end : (t : Bool) → (last_of (flat_map whole ls ++ rest) == 10) ≡ t → IsClosed all als (cond t ((flat_map whole ls ++ rest) ++ added als) ((flat_map whole ls ++ rest) ++ 10 ∷ added als))
    by_end true e = behind (no_tail ls rest clean e)
    by_end false e = closed

  -- what is written, with what is appended
  pub followed_says : (als : List (List ℕ)) → Each IsAdded als → IsClosed all als (followed_by (flat_map whole ls ++ rest) (added als))
  followed_says [] h = alone
  followed_says (a ∷ als) h =
      let s = added_some a als in
      let prefix = flat_map whole ls ++ rest in
      subst (IsClosed all (a ∷ als)) (sym (followed prefix (added (a ∷ als)) s.0 s.1 s.2)) (by_end (a ∷ als) h (last_of prefix == 10) refl)
