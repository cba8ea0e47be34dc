-- A text of which one line is made a remark, and one that has no such line.
use Rattle.std.proofs.Common.{◌≡◌, ◌≢◌, ℕ, ◌+◌, ◌<◌, ◌≤◌, List, [], ◌∷◌, ◌++◌, length, take, drop, get_or, Bool, true, false, eqb, cond, None, Ok, refl, sym, ap, ◌∙◌, subst, inl, inr, arith, add-one, append-nil, drop-cons, length-append}
use Rattle.std.specs.Prelude.{count_by}
use Rattle.std.specs.List.{slice_split}
use Rattle.std.specs.Str.Lines.{lines, lines_of_parts, strip_carriage_return}
use Rattle.std.proofs.Math.ListN.{set}
use Rattle.std.proofs.lemmas.Bool.Decides.{nat_tests}
use Rattle.std.proofs.lemmas.List.{take-append-drop, take-set, drop-set, length-map}
use Rattle.std.proofs.lemmas.List.Splits.{length-slice_split}
use Rattle.ioc_text.specs.Lines.{ioc_after, ioc_of, line_of}
use Rattle.ioc_text.specs.declared.line.Line.{Line}
use Rattle.ioc_without.specs.Starts.{AreWhole, IsStart, IsWithout, SaysNothing, empty, ended, none, past, remarked, same}
use Rattle.ioc_text.specs.Without.{without}
use Rattle.ioc_without.proofs.CutLemmas.{First, first_of, lines_before, lines_cut, split_cut}
use Rattle.ioc_without.proofs.LeftLemmas.{below_after, kept_after, left_out, quiet, remark}

abbrev ends : List ℕ → ℕ
ends text = count_by (λ b. eqb b 10) text

set_is : (text : List ℕ) (at y : ℕ) → at < length text → set text at y ≡ take at text ++ y ∷ drop (at + 1) text
set_is text at y l =
    sym (take-append-drop at (set text at y)) ∙ ap (λ (prefix : List ℕ). prefix ++ drop at (set text at y)) (take-set text at y)
    ∙ ap (λ (rest : List ℕ). take at text ++ rest) (drop-set text at y l)

text_is : (text : List ℕ) (at : ℕ) → at < length text → text ≡ take at text ++ get_or text at 0 ∷ drop (at + 1) text
text_is text at l =
    let more : drop at text ≡ get_or text at 0 ∷ drop (at + 1) text = rw add-one (drop-cons text at 0 l) in
    sym (take-append-drop at text) ∙ ap (λ (rest : List ℕ). take at text ++ rest) more

-- one end of a line more
counts : (f : List ℕ) → ends (f ++ 10 ∷ []) ≡ ends f + 1
counts f =
    let p : ℕ → Bool = λ b. eqb b 10 in
    let parts : length (slice_split p (f ++ 10 ∷ [])) ≡ length (slice_split p f) + 1 = ap length (split_cut p f [] 10 refl) ∙ length-append (slice_split p f) ([] ∷ []) in
    omega (arith, parts, length-slice_split p f, length-slice_split p (f ++ 10 ∷ []))

-- ---- whole lines before others
record Prefix (prefix : List ℕ) : Type 0 where
  pub before : List (List ℕ)
  pub long : length before ≡ ends prefix
  pub is : (rest : List ℕ) → lines (prefix ++ rest) ≡ before ++ lines rest

prefix_of : (prefix : List ℕ) → AreWhole prefix → Prefix prefix
prefix_of prefix (inl e) = record {
  before = [];
  long = sym (ap ends e);
  is = λ rest. ap (λ (l : List ℕ). lines (l ++ rest)) e;
}
prefix_of prefix (inr (f, e)) =
    let counted : ends prefix ≡ ends f + 1 = ap ends e ∙ counts f in
    let long : length (lines_before f) ≡ ends f + 1 = length-map (slice_split (λ b. eqb b 10) f) strip_carriage_return ∙ length-slice_split (λ b. eqb b 10) f in
    record {
      before = lines_before f;
      long = omega (arith, counted, long);
      is = λ rest. ap (λ (l : List ℕ). lines (l ++ rest)) e ∙ lines_cut f rest;
    }

-- ---- a line that is made a remark
quiet_for : (n x : ℕ) (more : List ℕ) (f : First x 35 more) → length f.line ≤ 65535 → line_of n f.other ≡ Ok None
quiet_for n x more f l =
    let few : length f.other ≤ 65535 = f.as_long 65535 (omega arith) l in
    subst (λ (o : List ℕ). line_of n o ≡ Ok None) (sym f.begins.1) (remark n f.begins.0 (subst (λ (o : List ℕ). length o ≤ 65535) f.begins.1 few))

begins_at : (number x : ℕ) (more : List ℕ) (ioc : List Line) → eqb x 10 ≡ false → (before : List (List ℕ)) → 1 + length before ≡ number
    → ioc_after [] 1 (before ++ lines (x ∷ more)) ≡ Ok ioc → ioc_after [] 1 (before ++ lines (35 ∷ more)) ≡ Ok (without number ioc)
begins_at number x more ioc some before count h =
    let f : First x 35 more = first_of x 35 more some refl refl in
    let read : ioc_after [] 1 (before ++ f.line ∷ f.tail) ≡ Ok ioc = subst (λ (l : List (List ℕ)). ioc_after [] 1 (before ++ l) ≡ Ok ioc) f.is h in
    subst (λ (l : List (List ℕ)). ioc_after [] 1 (before ++ l) ≡ Ok (without number ioc)) (sym f.becomes)
    (left_out number before f.line f.other f.tail ioc count (quiet_for number x more f) read)

cut_at : (number x : ℕ) (more : List ℕ) (ioc : List Line) → eqb x 10 ≡ false → (prefix : List ℕ) → Prefix prefix → ends prefix + 1 ≡ number
    → ioc_of (prefix ++ x ∷ more) ≡ Ok ioc → ioc_of (prefix ++ 35 ∷ more) ≡ Ok (without number ioc)
unfolding ioc_of
cut_at number x more ioc some prefix w count h =
    let read : ioc_after [] 1 (w.before ++ lines (x ∷ more)) ≡ Ok ioc = subst (λ (l : List (List ℕ)). ioc_after [] 1 l ≡ Ok ioc) (w.is (x ∷ more)) h in
    subst (λ (l : List (List ℕ)). ioc_after [] 1 l ≡ Ok (without number ioc)) (sym (w.is (35 ∷ more)))
    (begins_at number x more ioc some w.before (omega (arith, w.long, count)) read)

pub read_left : (text : List ℕ) (number at : ℕ) (ioc : List Line) → IsStart text number at → ioc_of text ≡ Ok ioc → ioc_of (set text at 35) ≡ Ok (without number ioc)
read_left text number at ioc s h =
    let x : ℕ = get_or text at 0 in
    let differs : x ≢ 10 = s.some_byte in
    let some : eqb x 10 ≡ false = grind (arith, nat_tests) in
    subst (λ (t : List ℕ). ioc_of t ≡ Ok (without number ioc)) (sym (set_is text at 35 s.inside))
    (cut_at number x (drop (at + 1) text) ioc some (take at text) (prefix_of (take at text) s.whole) s.before
    (subst (λ (t : List ℕ). ioc_of t ≡ Ok ioc) (text_is text at s.inside) h))

-- ---- a line that says nothing
parts_few : (parts : List (List ℕ)) → length (lines_of_parts parts) ≤ length parts
parts_few [] = omega arith
parts_few (x ∷ []) = one_few x (eqb (length x) 0)
  where
    one_few : (x : List ℕ) (t : Bool) → length (cond t [] (x ∷ [])) ≤ 1
    one_few x true = omega arith
    one_few x false = omega arith
parts_few (x ∷ y ∷ more) = omega (arith, parts_few (y ∷ more))

few_lines : (text : List ℕ) → length (lines text) ≤ ends text + 1
few_lines text = omega (arith, parts_few (slice_split (λ b. eqb b 10) text), length-slice_split (λ b. eqb b 10) text)

whole_few : (text : List ℕ) → Prefix text → length (lines text) ≤ ends text
whole_few text w =
    let is : lines text ≡ w.before ++ [] = ap lines (sym (append-nil text)) ∙ w.is [] in
    omega (arith, ap length is, ap length (append-nil w.before), w.long)

all_below : (text : List ℕ) (number : ℕ) (ioc : List Line) → 1 + length (lines text) ≤ number → ioc_of text ≡ Ok ioc → without number ioc ≡ ioc
unfolding ioc_of
all_below text number ioc l h = below_after number 1 (lines text) [] ioc l refl h

all_above : (text : List ℕ) (number : ℕ) (ioc : List Line) → number ≡ 0 → ioc_of text ≡ Ok ioc → without number ioc ≡ ioc
unfolding ioc_of
all_above text number ioc e h =
    let kept : ioc_after [] 1 (lines text) ≡ Ok (without number ioc) = kept_after number 1 (lines text) [] ioc (omega (arith, e)) h in
    let both : Ok (without number ioc) ≡ Ok ioc = sym kept ∙ h in
    cc

empty_line : (number : ℕ) (more : List ℕ) (ioc : List Line) (prefix : List ℕ) → Prefix prefix → ends prefix + 1 ≡ number → ioc_of (prefix ++ 10 ∷ more) ≡ Ok ioc → without number ioc ≡ ioc
unfolding ioc_of
empty_line number more ioc prefix w count h =
    let here : lines (10 ∷ more) ≡ [] ∷ lines more = lines_cut [] more in
    let read : ioc_after [] 1 (w.before ++ [] ∷ lines more) ≡ Ok ioc = subst (λ (l : List (List ℕ)). ioc_after [] 1 l ≡ Ok ioc) (w.is (10 ∷ more) ∙ ap (λ (l : List (List ℕ)). w.before ++ l) here) h in
    let left : ioc_after [] 1 (w.before ++ [] ∷ lines more) ≡ Ok (without number ioc) = left_out number w.before [] [] (lines more) ioc (omega (arith, w.long, count)) (λ l. quiet number) read in
    let both : Ok (without number ioc) ≡ Ok ioc = sym left ∙ read in
    cc

pub nothing_left : (text : List ℕ) (number : ℕ) (ioc : List Line) → SaysNothing text number → ioc_of text ≡ Ok ioc → without number ioc ≡ ioc
nothing_left text number ioc (none e) h = all_above text number ioc e h
nothing_left text number ioc (past l) h = all_below text number ioc (omega (arith, few_lines text, l)) h
nothing_left text number ioc (ended whole count) h = all_below text number ioc (omega (arith, whole_few text (prefix_of text whole), count)) h
nothing_left text number ioc (empty at inside whole count byte) h =
    let is : text ≡ take at text ++ 10 ∷ drop (at + 1) text = text_is text at inside ∙ ap (λ (b : ℕ). take at text ++ b ∷ drop (at + 1) text) byte in
    empty_line number (drop (at + 1) text) ioc (take at text) (prefix_of (take at text) whole) count (subst (λ (t : List ℕ). ioc_of t ≡ Ok ioc) is h)

pub left_is_read : (text left : List ℕ) (number : ℕ) (ioc : List Line) → IsWithout text number left → ioc_of text ≡ Ok ioc → ioc_of left ≡ Ok (without number ioc)
left_is_read text left number ioc (remarked at start is) h = subst (λ (t : List ℕ). ioc_of t ≡ Ok (without number ioc)) (sym is) (read_left text number at ioc start h)
left_is_read text left number ioc (same nothing is) h = ap ioc_of is ∙ h ∙ ap Ok (sym (nothing_left text number ioc nothing h))
