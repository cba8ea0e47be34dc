-- Lines are read by what each says, if no key stands twice.
use Rattle.std.proofs.Common.{◌≡◌, ℕ, ◌+◌, List, [], ◌∷◌, ◌++◌, length, take, drop, Bool, true, false, ltb, cond, Option, Some, None, Result, Ok, Err, refl, sym, ap, ◌∙◌, subst, inl, inr, append_assoc, append-nil}
use Rattle.std.specs.Prelude.{is_some, find}
use Rattle.std.specs.Str.{bytes_eq}
use Rattle.std.proofs.lemmas.Slice.Eq.{bytes_eq-Decides}
use Rattle.res_base.specs.Lists.{Each, Pairwise}
use Rattle.res_base.proofs.ListLemmas.{pairs_push}
use Rattle.res_base.proofs.SumLemmas.{bool_cases}
use Rattle.res_model.specs.Steps.{◌>>=◌}
use Rattle.ioc_text.specs.Lines.{divided, equals_at, ioc_after, is_named, is_quiet, line_at, line_of, undone, with_key, with_line, with_value}
use Rattle.ioc_text.specs.declared.fault.IocFault.{IocFault}
use Rattle.ioc_text.specs.declared.fault.IocFault.TheVariants.{LongLine, TwiceKey}
use Rattle.ioc_text.specs.declared.line.Line.{Line}
use Rattle.ioc_lines.specs.Entries.{Differ, Entry, Reads, entry_of, lines_from, lines_if, numbered_entry, numbered_if, of_key, of_parts, valued}

abbrev pub Read : Type 0
Read = Result (List Line) IocFault

pub both : {A B E : Type 0} (r : Result A E) (f : A → Result B E) (y : B) → (r >>= f) ≡ Ok y → (x : A) × (r ≡ Ok x) × (f x ≡ Ok y)
both (Ok x) f y e = (x, refl, e)
both (Err err) f y e = absurd cc

pub same_ok : {A E : Type 0} (x y : A) → (let r : Result A E = Ok x in r) ≡ Ok y → x ≡ y
same_ok x y e = cc

-- ---- one line

value_reads : (n m : ℕ) (key : List ℕ) (v : Option (List ℕ)) (o : Option Line) → with_value n key v ≡ Ok o → with_value m key v ≡ Ok (numbered_if m (valued key v))
value_reads n m key None o e = absurd cc
value_reads n m key (Some value) o e = refl

named_reads : (n m : ℕ) (key : List ℕ) (v : Option (List ℕ)) (t : Bool) (o : Option Line) → cond t (with_value n key v) (Ok None) ≡ Ok o
    → cond t (with_value m key v) (Ok None) ≡ Ok (numbered_if m (cond t (valued key v) None))
named_reads n m key v true o e = value_reads n m key v o e
named_reads n m key v false o e = refl

key_reads : (n m : ℕ) (key : Option (List ℕ)) (value : List ℕ) (o : Option Line) → with_key n key value ≡ Ok o → with_key m key value ≡ Ok (numbered_if m (of_key key value))
key_reads n m None value o e = refl
key_reads n m (Some key) value o e = named_reads n m key (undone value) (is_named key) o e

parts_read : (n m : ℕ) (bytes : List ℕ) (at : Option ℕ) (o : Option Line) → divided n bytes at ≡ Ok o → divided m bytes at ≡ Ok (numbered_if m (of_parts bytes at))
parts_read n m bytes None o e = absurd cc
parts_read n m bytes (Some at) o e = key_reads n m (undone (take at bytes)) (drop (at + 1) bytes) o e

quiet_reads : (n m : ℕ) (bytes : List ℕ) (long quiet : Bool) (o : Option Line) → cond long (Err (LongLine n)) (cond quiet (Ok None) (divided n bytes (equals_at bytes))) ≡ Ok o
    → cond long (Err (LongLine m)) (cond quiet (Ok None) (divided m bytes (equals_at bytes))) ≡ Ok (numbered_if m (cond quiet None (of_parts bytes (equals_at bytes))))
quiet_reads n m bytes true quiet o e = absurd cc
quiet_reads n m bytes false true o e = refl
quiet_reads n m bytes false false o e = parts_read n m bytes (equals_at bytes) o e

-- a line that was read under one number is read under each
pub line_reads : (n : ℕ) (bytes : List ℕ) (o : Option Line) → line_of n bytes ≡ Ok o → Reads bytes
unfolding line_of entry_of
line_reads n bytes o e = λ m. quiet_reads n m bytes (ltb 65535 (length bytes)) (is_quiet bytes) o e

-- ---- keys on lines

none_of : (before : List Line) (key : List ℕ) → is_some (line_at before key) ≡ false → Each (λ (l : Line). (l.key ≡ key) → ⊥) before
unfolding line_at
none_of [] key h = tt
none_of (l ∷ ls) key h = elim (bool_cases (bytes_eq key l.key)) [
  | inl t ↦ let f : true ≡ false = rw t at h in absurd cc
  | inr t ↦
      let more : is_some (find (λ (x : Line). bytes_eq key x.key) ls) ≡ false = rw t at h in
      (λ e. (let same : bytes_eq key l.key ≡ true = (bytes_eq-Decides key l.key).1 (sym e) in absurd cc), none_of ls key more)
]

none_if : (before : List Line) (key : List ℕ) → Each (λ (l : Line). (l.key ≡ key) → ⊥) before → is_some (line_at before key) ≡ false
unfolding line_at
none_if [] key h = refl
none_if (l ∷ ls) key h = elim (bool_cases (bytes_eq key l.key)) [
  | inl t ↦ absurd (h.0 (sym ((bytes_eq-Decides key l.key).0 t)))
  | inr t ↦ rw t (none_if ls key h.1)
]

module _ (before : List Line) (line : Line) (next : List Line → Read) where
  joined : (found : List Line) → (with_line before (Some line) >>= next) ≡ Ok found → Each (λ (l : Line). (l.key ≡ line.key) → ⊥) before × (next (before ++ line ∷ []) ≡ Ok found)
  unfolding with_line
  joined found h = elim (bool_cases (is_some (line_at before line.key))) [
    | inl t ↦ let e : (let r : Read = Err (TwiceKey line.number) in r) ≡ Ok found = rw t at h in absurd cc
    | inr t ↦ let e : next (before ++ line ∷ []) ≡ Ok found = rw t at h in (none_of before line.key t, e)
  ]

  joins : Each (λ (l : Line). (l.key ≡ line.key) → ⊥) before → (with_line before (Some line) >>= next) ≡ next (before ++ line ∷ [])
  unfolding with_line
  joins h = rw (none_if before line.key h) refl

-- ---- all lines

pub record AreRead (before : List Line) (n : ℕ) (ls : List (List ℕ)) (found : List Line) : Type 0 where
  pub each : Each Reads ls
  pub is : found ≡ before ++ lines_from n ls
  pub apart : Pairwise Differ found

module _ (n : ℕ) (b : List ℕ) (ls : List (List ℕ)) (before found : List Line) (reads : Reads b) (d : Pairwise Differ before) where
  step : (o : Option Entry) → entry_of b ≡ o → (with_line before (numbered_if n o) >>= (λ f. ioc_after f (n + 1) ls)) ≡ Ok found
      → ((more : List Line) → Pairwise Differ more → ioc_after more (n + 1) ls ≡ Ok found → AreRead more (n + 1) ls found) → AreRead before n (b ∷ ls) found
  unfolding with_line
  step None q h next =
      let r = next before d h in
      record { each = (reads, r.each); is = r.is ∙ ap (λ (x : Option Entry). before ++ (lines_if n x ++ lines_from (n + 1) ls)) (sym q); apart = r.apart }
  step (Some e) q h next =
      let line = numbered_entry n e in
      let j = joined before line (λ f. ioc_after f (n + 1) ls) found h in
      let r = next (before ++ line ∷ []) (pairs_push Differ before line d j.0) j.1 in
      record {
        each = (reads, r.each);
        is = r.is ∙ append_assoc before (line ∷ []) (lines_from (n + 1) ls) ∙ ap (λ (x : Option Entry). before ++ (lines_if n x ++ lines_from (n + 1) ls)) (sym q);
        apart = r.apart;
      }

-- lines that are read without a fault say their entries, and no key stands twice
pub read_all : (ls : List (List ℕ)) (n : ℕ) (before found : List Line) → Pairwise Differ before → ioc_after before n ls ≡ Ok found → AreRead before n ls found
read_all [] n before found d h =
    let same = same_ok before found h in
    record { each = tt; is = sym same ∙ sym (append-nil before); apart = subst (Pairwise Differ) same d }
read_all (b ∷ ls) n before found d h =
    let s = both (line_of n b) (λ line. with_line before line >>= (λ f. ioc_after f (n + 1) ls)) found h in
    let reads : Reads b = line_reads n b s.0 s.1 in
    let same : s.0 ≡ numbered_if n (entry_of b) = same_ok s.0 (numbered_if n (entry_of b)) (sym s.1 ∙ reads n) in
    let rest = subst (λ (o : Option Line). (with_line before o >>= (λ f. ioc_after f (n + 1) ls)) ≡ Ok found) same s.2 in
    step n b ls before found reads d (entry_of b) refl rest (λ more apart e. read_all ls (n + 1) more found apart e)

pairs_mid : {X : Type 0} (R : X → X → Type 0) (xs : List X) (y : X) (ys : List X) → Pairwise R (xs ++ y ∷ ys) → Each (λ x. R x y) xs
pairs_mid R [] y ys h = tt
pairs_mid R (x ∷ xs) y ys h = (here R x xs y ys h.0, pairs_mid R xs y ys h.1)
  where
    here : {X : Type 0} (R : X → X → Type 0) (x : X) (xs : List X) (y : X) (ys : List X) → Each (R x) (xs ++ y ∷ ys) → R x y
    here R x [] y ys h = h.0
    here R x (z ∷ zs) y ys h = here R x zs y ys h.1

module _ (n : ℕ) (ls : List (List ℕ)) (before : List Line) where
  back_step : (o : Option Entry) → Pairwise Differ (before ++ (lines_if n o ++ lines_from (n + 1) ls))
      → ((more : List Line) → Pairwise Differ (more ++ lines_from (n + 1) ls) → ioc_after more (n + 1) ls ≡ Ok (more ++ lines_from (n + 1) ls))
      → (with_line before (numbered_if n o) >>= (λ f. ioc_after f (n + 1) ls)) ≡ Ok (before ++ (lines_if n o ++ lines_from (n + 1) ls))
  unfolding with_line
  back_step None d next = next before d
  back_step (Some e) d next =
      let line = numbered_entry n e in
      let more = sym (append_assoc before (line ∷ []) (lines_from (n + 1) ls)) in
      joins before line (λ f. ioc_after f (n + 1) ls) (pairs_mid Differ before line (lines_from (n + 1) ls) d)
      ∙ next (before ++ line ∷ []) (subst (Pairwise Differ) more d)
      ∙ ap Ok (sym more)

-- and the other way round
pub all_read : (ls : List (List ℕ)) (n : ℕ) (before : List Line) → Each Reads ls → Pairwise Differ (before ++ lines_from n ls) → ioc_after before n ls ≡ Ok (before ++ lines_from n ls)
all_read [] n before r d = ap Ok (sym (append-nil before))
all_read (b ∷ ls) n before r d =
    ap (λ (x : Result (Option Line) IocFault). x >>= (λ line. with_line before line >>= (λ f. ioc_after f (n + 1) ls))) (r.0 n)
    ∙ back_step n ls before (entry_of b) d (λ more apart. all_read ls (n + 1) more r.1 apart)
