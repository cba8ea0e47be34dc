-- The lines that are left where a line is made a remark.
use Rattle.std.proofs.Common.{◌≡◌, ◌≢◌, ℕ, suc, ◌+◌, ◌<◌, ◌≤◌, List, [], ◌∷◌, ◌++◌, length, Bool, true, false, not, eqb, ltb, cond, Option, Some, None, Result, Ok, Err, filter, refl, sym, ap, ◌∙◌, subst, inl, inr, arith, add-zero, append-nil}
use Rattle.std.specs.Prelude.{is_some, find}
use Rattle.std.specs.Str.{bytes_eq}
use Rattle.std.proofs.lemmas.Bool.Decides.{nat_tests}
use Rattle.std.proofs.lemmas.List.Elements.{filter-append}
use Rattle.res_base.proofs.SumLemmas.{bool_cases}
use Rattle.res_model.specs.Steps.{◌>>=◌}
use Rattle.ioc_text.specs.Lines.{equals_at, divided, ioc_after, is_named, is_quiet, line_at, line_of, undone, with_key, with_line, with_value}
use Rattle.ioc_text.specs.declared.fault.IocFault.{IocFault}
use Rattle.ioc_text.specs.declared.fault.IocFault.TheVariants.{LongLine, TwiceKey}
use Rattle.ioc_text.specs.declared.line.Line.{Line}
use Rattle.ioc_text.specs.Without.{without}

abbrev Read : Type 0
Read = Result (List Line) IocFault

abbrev OfLine : Type 0
OfLine = Result (Option Line) IocFault

-- ---- two lists of lines, one behind the other
found_then : (r : Read) (h k g : List Line → Read) → ((found : List Line) → h found ≡ (k found >>= g)) → (r >>= h) ≡ ((r >>= k) >>= g)
found_then (Ok found) h k g e = e found
found_then (Err fault) h k g e = refl

line_then : (r : OfLine) (w : Option Line → Read) (h k g : List Line → Read) → ((found : List Line) → h found ≡ (k found >>= g))
    → (r >>= (λ line. w line >>= h)) ≡ ((r >>= (λ line. w line >>= k)) >>= g)
line_then (Ok line) w h k g e = found_then (w line) h k g e
line_then (Err fault) w h k g e = refl

pub ioc_append : (before : List Line) (n : ℕ) (ls ms : List (List ℕ)) → ioc_after before n (ls ++ ms) ≡ (ioc_after before n ls >>= (λ found. ioc_after found (n + length ls) ms))
ioc_append before n [] ms = ap (λ (k : ℕ). ioc_after before k ms) (sym (add-zero n))
ioc_append before n (b ∷ ls) ms =
    let count : (n + 1) + length ls ≡ n + suc (length ls) = omega arith in
    line_then (line_of n b) (with_line before) (λ found. ioc_after found (n + 1) (ls ++ ms)) (λ found. ioc_after found (n + 1) ls) (λ found. ioc_after found (n + suc (length ls)) ms)
    (λ found. ioc_append found (n + 1) ls ms ∙ ap (λ (k : ℕ). ioc_after found (n + 1) ls >>= (λ f. ioc_after f k ms)) count)

-- ---- the number of a line
value_number : (n : ℕ) (key : List ℕ) (value : Option (List ℕ)) (line : Line) → with_value n key value ≡ Ok (Some line) → line.number ≡ n
value_number n key None line e = cc
value_number n key (Some value) line e = cc

named_number : (n : ℕ) (key value : List ℕ) (t : Bool) (line : Line) → cond t (with_value n key (undone value)) (Ok None) ≡ Ok (Some line) → line.number ≡ n
named_number n key value true line e = value_number n key (undone value) line e
named_number n key value false line e = cc

key_number : (n : ℕ) (key : Option (List ℕ)) (value : List ℕ) (line : Line) → with_key n key value ≡ Ok (Some line) → line.number ≡ n
key_number n None value line e = cc
key_number n (Some key) value line e = named_number n key value (is_named key) line e

divided_number : (n : ℕ) (bytes : List ℕ) (at : Option ℕ) (line : Line) → divided n bytes at ≡ Ok (Some line) → line.number ≡ n
divided_number n bytes None line e = cc
divided_number n bytes (Some at) line e = key_number n _ _ line e

quiet_number : (n : ℕ) (bytes : List ℕ) (long quiet : Bool) (line : Line) → cond long (Err (LongLine n)) (cond quiet (Ok None) (divided n bytes (equals_at bytes))) ≡ Ok (Some line) → line.number ≡ n
quiet_number n bytes true quiet line e = cc
quiet_number n bytes false true line e = cc
quiet_number n bytes false false line e = divided_number n bytes (equals_at bytes) line e

pub line_number : (n : ℕ) (bytes : List ℕ) (line : Line) → line_of n bytes ≡ Ok (Some line) → line.number ≡ n
unfolding line_of
line_number n bytes line e = quiet_number n bytes (ltb 65535 (length bytes)) (is_quiet bytes) line e

-- ---- a line among those that are kept
kept_line : (n : ℕ) (line : Line) → line.number ≢ n → without n (line ∷ []) ≡ line ∷ []
kept_line n line h = let e : eqb line.number n ≡ false = grind (arith, nat_tests) in rw e refl

left_line : (n : ℕ) (line : Line) → line.number ≡ n → without n (line ∷ []) ≡ []
left_line n line h = let e : eqb line.number n ≡ true = grind (arith, nat_tests) in rw e refl

keeps : (n : ℕ) (before : List Line) (line : Line) → line.number ≢ n → without n (before ++ line ∷ []) ≡ without n before ++ line ∷ []
keeps n before line h = filter-append (λ (l : Line). not (eqb l.number n)) before (line ∷ []) ∙ ap (λ (l : List Line). without n before ++ l) (kept_line n line h)

leaves : (n : ℕ) (before : List Line) (line : Line) → line.number ≡ n → without n (before ++ line ∷ []) ≡ without n before
leaves n before line h =
    filter-append (λ (l : Line). not (eqb l.number n)) before (line ∷ []) ∙ ap (λ (l : List Line). without n before ++ l) (left_line n line h) ∙ append-nil (without n before)

none_found : (p q : Line → Bool) (ls : List Line) → is_some (find p ls) ≡ false → is_some (find p (filter q ls)) ≡ false
none_found p q [] h = refl
none_found p q (l ∷ ls) h = elim (bool_cases (p l)) [
  | inl t ↦ let some : true ≡ false = rw t at h in absurd cc
  | inr t ↦
      let more : is_some (find p ls) ≡ false = rw t at h in
      elim (bool_cases (q l)) [ inl u ↦ rw (u, t) (none_found p q ls more) | inr u ↦ rw u (none_found p q ls more) ]
]

none_kept : (n : ℕ) (before : List Line) (key : List ℕ) → is_some (line_at before key) ≡ false → is_some (line_at (without n before) key) ≡ false
unfolding line_at
none_kept n before key h = none_found (λ (l : Line). bytes_eq key l.key) (λ (l : Line). not (eqb l.number n)) before h

-- what follows a line whose key stood on none before it
joins : (before : List Line) (line : Line) → is_some (line_at before line.key) ≡ false → with_line before (Some line) ≡ Ok (before ++ line ∷ [])
unfolding with_line
joins before line h = rw h refl

stood : (before : List Line) (line : Line) (more : List Line → Read) (ioc : List Line) → (with_line before (Some line) >>= more) ≡ Ok ioc → is_some (line_at before line.key) ≡ false
unfolding with_line
stood before line more ioc h = elim (bool_cases (is_some (line_at before line.key))) [
  | inl t ↦ let e : (let r : Read = Err (TwiceKey line.number) in r) ≡ Ok ioc = rw t at h in absurd cc
  | inr t ↦ t
]

after_join : (before : List Line) (line : Line) (more : List Line → Read) (ioc : List Line) → (with_line before (Some line) >>= more) ≡ Ok ioc → more (before ++ line ∷ []) ≡ Ok ioc
after_join before line more ioc h =
    subst (λ (r : Read). (r >>= more) ≡ Ok ioc) (joins before line (stood before line more ioc h)) h

-- ---- lines before the one that is left out
below_line : (n k : ℕ) (before : List Line) (b : List ℕ) (ms : List (List ℕ)) (ioc : List Line) (r : OfLine) → line_of k b ≡ r → k < n → without n before ≡ before
    → ((found : List Line) → without n found ≡ found → ioc_after found (k + 1) ms ≡ Ok ioc → without n ioc ≡ ioc)
    → (r >>= (λ line. with_line before line >>= (λ f. ioc_after f (k + 1) ms))) ≡ Ok ioc → without n ioc ≡ ioc
unfolding with_line
below_line n k before b ms ioc (Err fault) e l kept next h = cc
below_line n k before b ms ioc (Ok None) e l kept next h = next before kept h
below_line n k before b ms ioc (Ok (Some line)) e l kept next h =
    let other : line.number ≢ n = λ (f : line.number ≡ n). omega (arith, f, line_number k b line e) in
    next (before ++ line ∷ []) (keeps n before line other ∙ ap (λ (x : List Line). x ++ line ∷ []) kept)
    (after_join before line (λ f. ioc_after f (k + 1) ms) ioc h)

pub below_after : (n k : ℕ) (ms : List (List ℕ)) (before ioc : List Line) → k + length ms ≤ n → without n before ≡ before → ioc_after before k ms ≡ Ok ioc → without n ioc ≡ ioc
below_after n k [] before ioc l kept h = let e : before ≡ ioc = cc in subst (λ (x : List Line). without n x ≡ x) e kept
below_after n k (b ∷ ms) before ioc l kept h =
    below_line n k before b ms ioc (line_of k b) refl (omega (arith, l)) kept (λ found is. below_after n (k + 1) ms found ioc (omega (arith, l)) is) h

-- ---- lines behind it
kept_behind : (n k : ℕ) (before : List Line) (b : List ℕ) (ms : List (List ℕ)) (ioc : List Line) (r : OfLine) → line_of k b ≡ r → n < k
    → ((found : List Line) → ioc_after found (k + 1) ms ≡ Ok ioc → ioc_after (without n found) (k + 1) ms ≡ Ok (without n ioc))
    → (r >>= (λ line. with_line before line >>= (λ f. ioc_after f (k + 1) ms))) ≡ Ok ioc
    → (r >>= (λ line. with_line (without n before) line >>= (λ f. ioc_after f (k + 1) ms))) ≡ Ok (without n ioc)
unfolding with_line
kept_behind n k before b ms ioc (Err fault) e l next h = cc
kept_behind n k before b ms ioc (Ok None) e l next h = next before h
kept_behind n k before b ms ioc (Ok (Some line)) e l next h =
    let more : List Line → Read = λ f. ioc_after f (k + 1) ms in
    let other : line.number ≢ n = λ (f : line.number ≡ n). omega (arith, f, line_number k b line e) in
    let none = none_kept n before line.key (stood before line more ioc h) in
    let rest = next (before ++ line ∷ []) (after_join before line more ioc h) in
    subst (λ (r : Read). (r >>= more) ≡ Ok (without n ioc)) (sym (joins (without n before) line none))
    (subst (λ (f : List Line). more f ≡ Ok (without n ioc)) (keeps n before line other) rest)

pub kept_after : (n k : ℕ) (ms : List (List ℕ)) (before ioc : List Line) → n < k → ioc_after before k ms ≡ Ok ioc → ioc_after (without n before) k ms ≡ Ok (without n ioc)
kept_after n k [] before ioc l h = let e : before ≡ ioc = cc in ap (λ (x : List Line). Ok (without n x)) e
kept_after n k (b ∷ ms) before ioc l h =
    kept_behind n k before b ms ioc (line_of k b) refl l (λ found is. kept_after n (k + 1) ms found ioc (omega (arith, l)) is) h

-- ---- the line itself
at_line : (n : ℕ) (found : List Line) (line : List ℕ) (tail : List (List ℕ)) (ioc : List Line) (r : OfLine) → line_of n line ≡ r → without n found ≡ found
    → (r >>= (λ l. with_line found l >>= (λ f. ioc_after f (n + 1) tail))) ≡ Ok ioc → ioc_after found (n + 1) tail ≡ Ok (without n ioc)
unfolding with_line
at_line n found line tail ioc (Err fault) e kept h = cc
at_line n found line tail ioc (Ok None) e kept h =
    subst (λ (f : List Line). ioc_after f (n + 1) tail ≡ Ok (without n ioc)) kept (kept_after n (n + 1) tail found ioc (omega arith) h)
at_line n found line tail ioc (Ok (Some l)) e kept h =
    let rest = kept_after n (n + 1) tail (found ++ l ∷ []) ioc (omega arith) (after_join found l (λ f. ioc_after f (n + 1) tail) ioc h) in
    subst (λ (f : List Line). ioc_after f (n + 1) tail ≡ Ok (without n ioc)) (leaves n found l (line_number n line l e) ∙ kept) rest

-- ---- a line that was read is short, and one that begins with # says nothing
not_long : (n : ℕ) (line : List ℕ) (more : OfLine) (o : Option Line) → cond (ltb 65535 (length line)) (Err (LongLine n)) more ≡ Ok o → length line ≤ 65535
not_long n line more o e = elim (bool_cases (ltb 65535 (length line))) [
  | inl t ↦ let f : (let r : OfLine = Err (LongLine n) in r) ≡ Ok o = rw t at e in absurd cc
  | inr t ↦ grind (arith, nat_tests)
]

short : (n : ℕ) (line : List ℕ) (o : Option Line) → line_of n line ≡ Ok o → length line ≤ 65535
unfolding line_of
short n line o e = not_long n line (cond (is_quiet line) (Ok None) (divided n line (equals_at line))) o e

short_by : (n : ℕ) (line : List ℕ) (r : OfLine) (more : Option Line → Read) (ioc : List Line) → line_of n line ≡ r → (r >>= more) ≡ Ok ioc → length line ≤ 65535
short_by n line (Err fault) more ioc e h = cc
short_by n line (Ok o) more ioc e h = short n line o e

pub remark : (n : ℕ) (rest : List ℕ) → length (35 ∷ rest) ≤ 65535 → line_of n (35 ∷ rest) ≡ Ok None
unfolding line_of
remark n rest l = let e : ltb 65535 (length (35 ∷ rest)) ≡ false = grind (arith, nat_tests) in rw e refl

pub quiet : (n : ℕ) → line_of n [] ≡ Ok None
unfolding line_of
quiet n = refl

left_at : (n : ℕ) (prefix : Read) (line other : List ℕ) (tail : List (List ℕ)) (ioc : List Line) → ((found : List Line) → prefix ≡ Ok found → without n found ≡ found)
    → (length line ≤ 65535 → line_of n other ≡ Ok None)
    → (prefix >>= (λ found. ioc_after found n (line ∷ tail))) ≡ Ok ioc → (prefix >>= (λ found. ioc_after found n (other ∷ tail))) ≡ Ok (without n ioc)
unfolding with_line
left_at n (Err fault) line other tail ioc kept still h = cc
left_at n (Ok found) line other tail ioc kept still h =
    let says : line_of n other ≡ Ok None = still (short_by n line (line_of n line) (λ l. with_line found l >>= (λ f. ioc_after f (n + 1) tail)) ioc refl h) in
    rw says (at_line n found line tail ioc (line_of n line) refl (kept found refl) h)

-- a line that says nothing in the place of one leaves the others
pub left_out : (n : ℕ) (prefix : List (List ℕ)) (line other : List ℕ) (tail : List (List ℕ)) (ioc : List Line) → 1 + length prefix ≡ n → (length line ≤ 65535 → line_of n other ≡ Ok None)
    → ioc_after [] 1 (prefix ++ line ∷ tail) ≡ Ok ioc → ioc_after [] 1 (prefix ++ other ∷ tail) ≡ Ok (without n ioc)
left_out n prefix line other tail ioc count still h =
    let read : (ioc_after [] 1 prefix >>= (λ found. ioc_after found n (line ∷ tail))) ≡ Ok ioc =
    subst (λ (k : ℕ). (ioc_after [] 1 prefix >>= (λ found. ioc_after found k (line ∷ tail))) ≡ Ok ioc) count (sym (ioc_append [] 1 prefix (line ∷ tail)) ∙ h) in
    let kept = λ (found : List Line) (e : ioc_after [] 1 prefix ≡ Ok found). below_after n 1 prefix [] found (omega (arith, count)) refl e in
    ioc_append [] 1 prefix (other ∷ tail)
    ∙ subst (λ (k : ℕ). (ioc_after [] 1 prefix >>= (λ found. ioc_after found k (other ∷ tail))) ≡ Ok (without n ioc)) (sym count)
    (left_at n (ioc_after [] 1 prefix) line other tail ioc kept still read)
