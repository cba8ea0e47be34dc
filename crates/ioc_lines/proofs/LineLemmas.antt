-- What lines with a key say.
use Rattle.std.proofs.Common.{◌≡◌, ◌⊎◌, ℕ, suc, ◌+◌, ◌<◌, ◌≤◌, ◌==◌, List, [], ◌∷◌, ◌++◌, length, take, drop, Bool, true, false, ltb, cond, Option, Some, None, Result, Ok, Err, refl, sym, ap, ◌∙◌, subst, inl, inr, append_assoc, length-append, arith}
use Rattle.std.specs.Prelude.{nat_lt}
use Rattle.std.proofs.lemmas.Bool.Decides.{nat_tests}
use Rattle.res_base.proofs.SumLemmas.{bool_cases}
use Rattle.ioc_text.specs.Lines as text
use Rattle.ioc_text.specs.Lines.{after_bytes, equals_at, equals_from, is_escapable, is_named, is_quiet, line_of, undone, undone_from}
use Rattle.ioc_text.specs.declared.fault.IocFault.{IocFault}
use Rattle.ioc_text.specs.declared.fault.IocFault.TheVariants.{LongLine, NoEquals}
use Rattle.ioc_text.specs.declared.line.Line.{Line}
use Rattle.ioc_lines.specs.Entries.{Entry, Near, NearIf, Reads, entry_of, numbered_if, of_key, of_parts, valued}
use Rattle.ioc_lines.specs.Lines.{Keyed, divided, escaped, keyed, keyed_at, with_key}
use Rattle.ioc_lines.proofs.DivideLemmas.{Divides, HasKey, cut, drop_past, divides, has, key_had, take_prefix}
use Rattle.ioc_lines.proofs.NameLemmas.{name_read}
use Rattle.ioc_lines.proofs.PartLemmas.{loud_name, name_passed}

abbrev OfLine : Type 0
OfLine = Result (Option Line) IocFault

-- ---- a line with a key

module _ (says : List ℕ) (k : Keyed) (h : keyed says ≡ Some k) (short : length says ≤ 65535) where
  not_long : ltb 65535 (length says) ≡ false
  not_long = grind (arith, nat_tests)

  pub reads_named : (value : List ℕ) → is_named k.key ≡ true → undone (drop (k.equals + 1) says) ≡ Some value → Reads says × (entry_of says ≡ Some (k.key, value))
  unfolding line_of entry_of
  reads_named value n v = let s = has says k h in (λ m. rw (not_long, s.loud, s.at, s.read, n, v) refl, rw (s.loud, s.at, s.read, n, v) refl)

  pub reads_unnamed : is_named k.key ≡ false → Reads says × (entry_of says ≡ None)
  unfolding line_of entry_of
  reads_unnamed n = let s = has says k h in (λ m. rw (not_long, s.loud, s.at, s.read, n) refl, rw (s.loud, s.at, s.read, n) refl)

none_key : (at : ℕ) (o : Option (List ℕ)) (value : List ℕ) → with_key at o ≡ None → of_key o value ≡ None
none_key at None value e = refl
none_key at (Some key) value e = absurd cc

none_parts : (says : List ℕ) (o : Option ℕ) → divided says o ≡ None → of_parts says o ≡ None
none_parts says None e = refl
none_parts says (Some at) e = none_key at (undone (take at says)) (drop (at + 1) says) e

-- a line without a key has no entry
pub no_entry : (says : List ℕ) → keyed says ≡ None → entry_of says ≡ None
unfolding keyed entry_of
no_entry says e = elim (bool_cases (is_quiet says)) [
  | inl q ↦ rw q refl
  | inr q ↦ let f : divided says (equals_at says) ≡ None = rw q at e in rw q (none_parts says (equals_at says) f)
]

short_by : (n : ℕ) (bytes : List ℕ) (long : Bool) (rest : OfLine) (x : Option Line) → ltb 65535 (length bytes) ≡ long → cond long (Err (LongLine n)) rest ≡ Ok x → length bytes ≤ 65535
short_by n bytes true rest x e h = absurd cc
short_by n bytes false rest x e h = grind (arith, nat_tests)

-- a line that is read is short
pub short_line : (says : List ℕ) → Reads says → length says ≤ 65535
unfolding line_of
short_line says r = short_by 0 says (ltb 65535 (length says)) (cond (is_quiet says) (Ok None) (text.divided 0 says (equals_at says))) (numbered_if 0 (entry_of says)) refl (r 0)

value_by : (n : ℕ) (key : List ℕ) (long : Bool) (o : Option (List ℕ)) (x : Option Line) → cond long (Err (LongLine n)) (text.with_value n key o) ≡ Ok x → (v : List ℕ) × (o ≡ Some v)
value_by n key true o x e = absurd cc
value_by n key false None x e = absurd cc
value_by n key false (Some v) x e = (v, refl)

-- the value of a named key can be read
pub value_read : (says : List ℕ) (k : Keyed) → keyed says ≡ Some k → Reads says → is_named k.key ≡ true → (v : List ℕ) × (undone (drop (k.equals + 1) says) ≡ Some v)
unfolding line_of
value_read says k h r n =
    let s = has says k h in
    let x = numbered_if 0 (entry_of says) in
    let e : cond (ltb 65535 (length says)) (Err (LongLine 0)) (text.with_value 0 k.key (undone (drop (k.equals + 1) says))) ≡ Ok x = rw (s.loud, s.at, s.read, n) at (r 0) in
    value_by 0 k.key (ltb 65535 (length says)) (undone (drop (k.equals + 1) says)) x e

-- ---- a line of a key and a value, both escaped

module _ (key value : List ℕ) (some : 0 < length key) where
  abbrev pub entry_line : List ℕ
  entry_line = escaped key ++ 61 ∷ escaped value

  entry_at : equals_at entry_line ≡ Some (length (escaped key))
  unfolding equals_at equals_from
  entry_at = name_passed 0 key (61 ∷ escaped value) ∙ ap Some (omega arith)

  pub entry_keyed : keyed entry_line ≡ Some (keyed_at key (length (escaped key)))
  entry_keyed = key_had entry_line (length (escaped key)) key (loud_name key (61 ∷ escaped value) some) entry_at (ap undone (take_prefix (escaped key) (61 ∷ escaped value)) ∙ name_read key)

  pub entry_reads : is_named key ≡ true → length entry_line ≤ 65535 → Reads entry_line × (entry_of entry_line ≡ Some (key, value))
  entry_reads n short = reads_named entry_line (keyed_at key (length (escaped key))) entry_keyed short value n (ap undone (drop_past (escaped key) 61 (escaped value)) ∙ name_read value)

-- ---- a line without the CR at its end

equals_cr : (p : Bool) (at : ℕ) (xs : List ℕ) → equals_from p at (xs ++ 13 ∷ []) ≡ equals_from p at xs
unfolding equals_from
equals_cr true at [] = refl
equals_cr false at [] = refl
equals_cr true at (b ∷ bs) = equals_cr false (at + 1) bs
equals_cr false at (b ∷ bs) = elim (bool_cases (b == 61)) [
  | inl t ↦ rw t refl
  | inr t ↦ rw t (equals_cr (b == 92) (at + 1) bs)
]

after_some : (b : ℕ) (o : Option (List ℕ)) (v : List ℕ) → after_bytes (b ∷ []) o ≡ Some v → (more : List ℕ) × (o ≡ Some more) × (v ≡ b ∷ more)
after_some b None v e = absurd cc
after_some b (Some more) v e = (more, refl, cc)

undone_cr : (p : Bool) (xs v : List ℕ) → undone_from p (xs ++ 13 ∷ []) ≡ Some v → (w : List ℕ) × (undone_from p xs ≡ Some w) × (v ≡ w ++ 13 ∷ [])
unfolding undone_from
undone_cr true [] v e = absurd cc
undone_cr false [] v e = ([], refl, cc)
undone_cr true (b ∷ bs) v e = elim (bool_cases (is_escapable b)) [
  | inl t ↦
      let f : after_bytes (b ∷ []) (undone_from false (bs ++ 13 ∷ [])) ≡ Some v = rw t at e in
      let r = after_some b (undone_from false (bs ++ 13 ∷ [])) v f in
      let s = undone_cr false bs r.0 r.1 in
      (b ∷ s.0, rw (t, s.1) refl, r.2 ∙ ap (λ (x : List ℕ). b ∷ x) s.2)
  | inr t ↦ let f : (let o : Option (List ℕ) = None in o) ≡ Some v = rw t at e in absurd cc
]
undone_cr false (b ∷ bs) v e = elim (bool_cases (b == 92)) [
  | inl t ↦
      let f : undone_from true (bs ++ 13 ∷ []) ≡ Some v = rw t at e in
      let s = undone_cr true bs v f in
      (s.0, rw t s.1, s.2)
  | inr t ↦
      let f : after_bytes (b ∷ []) (undone_from false (bs ++ 13 ∷ [])) ≡ Some v = rw t at e in
      let r = after_some b (undone_from false (bs ++ 13 ∷ [])) v f in
      let s = undone_cr false bs r.0 r.1 in
      (b ∷ s.0, rw (t, s.1) refl, r.2 ∙ ap (λ (x : List ℕ). b ∷ x) s.2)
]

-- what a line is cut into keeps its place where a CR is added
module _ (s : List ℕ) (at : ℕ) (e : equals_at s ≡ Some at) where
  the_cut : Divides false 0 s at
  unfolding equals_at
  the_cut = divides false 0 s at e

  as_long : length the_cut.prefix ≡ at
  as_long = omega (arith, the_cut.there)

  with_cr : s ++ 13 ∷ [] ≡ the_cut.prefix ++ 61 ∷ (the_cut.rest ++ 13 ∷ [])
  with_cr = ap (λ (x : List ℕ). x ++ 13 ∷ []) the_cut.whole ∙ append_assoc the_cut.prefix (61 ∷ the_cut.rest) (13 ∷ [])

  pub take_cr : take at (s ++ 13 ∷ []) ≡ take at s
  take_cr =
      ap (λ (n : ℕ). take n (s ++ 13 ∷ [])) (sym as_long) ∙ ap (take (length the_cut.prefix)) with_cr ∙ take_prefix the_cut.prefix (61 ∷ (the_cut.rest ++ 13 ∷ []))
      ∙ sym (ap (λ (n : ℕ). take n s) (sym as_long) ∙ ap (take (length the_cut.prefix)) the_cut.whole ∙ take_prefix the_cut.prefix (61 ∷ the_cut.rest))

  pub drop_cr : drop (at + 1) (s ++ 13 ∷ []) ≡ drop (at + 1) s ++ 13 ∷ []
  drop_cr =
      ap (λ (n : ℕ). drop (n + 1) (s ++ 13 ∷ [])) (sym as_long) ∙ ap (drop (length the_cut.prefix + 1)) with_cr ∙ drop_past the_cut.prefix 61 (the_cut.rest ++ 13 ∷ [])
      ∙ ap (λ (x : List ℕ). x ++ 13 ∷ []) (sym (ap (λ (n : ℕ). drop (n + 1) s) (sym as_long) ∙ ap (drop (length the_cut.prefix + 1)) the_cut.whole ∙ drop_past the_cut.prefix 61 the_cut.rest))

at_cr : (s : List ℕ) → equals_at (s ++ 13 ∷ []) ≡ equals_at s
unfolding equals_at
at_cr s = equals_cr false 0 s

-- what is read of a value at the end of the line
valued_cr : (n : ℕ) (key : List ℕ) (named long : Bool) (o u : Option (List ℕ)) (x : Option Line) → ((v : List ℕ) → o ≡ Some v → (w : List ℕ) × (u ≡ Some w) × (v ≡ w ++ 13 ∷ []))
    → cond long (Err (LongLine n)) (cond named (text.with_value n key o) (Ok None)) ≡ Ok x
    → ((m : ℕ) → cond named (text.with_value m key u) (Ok None) ≡ Ok (numbered_if m (cond named (valued key u) None)))
    × NearIf (cond named (valued key o) None) (cond named (valued key u) None)
valued_cr n key named true o u x f e = absurd cc
valued_cr n key false false o u x f e = (λ m. refl, tt)
valued_cr n key true false None u x f e = absurd cc
valued_cr n key true false (Some v) u x f e = let s = f v refl in (λ m. rw s.1 refl, rw s.1 (refl, inr s.2))

undone_end : (xs v : List ℕ) → undone (xs ++ 13 ∷ []) ≡ Some v → (w : List ℕ) × (undone xs ≡ Some w) × (v ≡ w ++ 13 ∷ [])
unfolding undone
undone_end xs v e = undone_cr false xs v e

refused_by : (a b : IocFault) (long : Bool) (x : Option Line) → (let r : OfLine = cond long (Err a) (Err b) in r) ≡ Ok x → ⊥
refused_by a b true x e = absurd cc
refused_by a b false x e = absurd cc

no_equals : (says : List ℕ) → is_quiet says ≡ false → equals_at says ≡ None → Reads says → ⊥
unfolding line_of
no_equals says q e r =
    let x = numbered_if 0 (entry_of says) in
    let f : (let y : OfLine = cond (ltb 65535 (length says)) (Err (LongLine 0)) (Err (NoEquals 0)) in y) ≡ Ok x = rw (q, e) at (r 0) in
    refused_by (LongLine 0) (NoEquals 0) (ltb 65535 (length says)) x f

key_read : (says : List ℕ) (at : ℕ) (key : List ℕ) → is_quiet says ≡ false → equals_at says ≡ Some at → undone (take at says) ≡ Some key → Reads says
    → cond (ltb 65535 (length says)) (Err (LongLine 0)) (cond (is_named key) (text.with_value 0 key (undone (drop (at + 1) says))) (Ok None)) ≡ Ok (numbered_if 0 (entry_of says))
unfolding line_of
key_read says at key q e k r = rw (q, e, k) at (r 0)

module _ (b : ℕ) (bs : List ℕ) (r : Reads ((b ∷ bs) ++ 13 ∷ [])) (q : (b == 35) ≡ false) (at : ℕ) (e : equals_at (b ∷ bs) ≡ Some at) where
  before : List ℕ
  before = b ∷ bs

  after : List ℕ
  after = before ++ 13 ∷ []

  not_long_cr : ltb 65535 (length before) ≡ false
  unfolding before after
  not_long_cr = let l = short_line after r in let n = length-append (b ∷ bs) (13 ∷ []) in grind (arith, nat_tests)

  same_at : equals_at after ≡ Some at
  unfolding before after
  same_at = at_cr (b ∷ bs) ∙ e

  by_key : (o : Option (List ℕ)) → undone (take at before) ≡ o → Reads before × NearIf (entry_of after) (entry_of before)
  unfolding before after line_of entry_of
  by_key None k =
      let same : undone (take at (before ++ 13 ∷ [])) ≡ None = ap undone (take_cr before at e) ∙ k in
      (λ m. rw (not_long_cr, q, e, k) refl, rw (q, same_at, e, same, k) tt)
  by_key (Some key) k =
      let same : undone (take at (before ++ 13 ∷ [])) ≡ Some key = ap undone (take_cr before at e) ∙ k in
      let cut : drop (at + 1) (before ++ 13 ∷ []) ≡ drop (at + 1) before ++ 13 ∷ [] = drop_cr before at e in
      let v = valued_cr 0 key (is_named key) (ltb 65535 (length after)) (undone (drop (at + 1) after)) (undone (drop (at + 1) before)) (numbered_if 0 (entry_of after))
      (λ v h. undone_end (drop (at + 1) before) v (sym (ap undone cut) ∙ h)) (key_read after at key q same_at same r) in
      (λ m. rw (not_long_cr, q, e, k) (v.0 m), rw (q, same_at, e, same, k) v.1)

quiet_cr : (b : ℕ) (bs : List ℕ) → Reads ((b ∷ bs) ++ 13 ∷ []) → (b == 35) ≡ true → Reads (b ∷ bs) × NearIf (entry_of ((b ∷ bs) ++ 13 ∷ [])) (entry_of (b ∷ bs))
unfolding line_of entry_of
quiet_cr b bs r q =
    let l = short_line ((b ∷ bs) ++ 13 ∷ []) r in
    let n = length-append (b ∷ bs) (13 ∷ []) in
    let short : ltb 65535 (length (b ∷ bs)) ≡ false = grind (arith, nat_tests) in
    (λ m. rw (short, q) refl, rw q tt)

cr_at : (b : ℕ) (bs : List ℕ) → Reads ((b ∷ bs) ++ 13 ∷ []) → (b == 35) ≡ false → (o : Option ℕ) → equals_at (b ∷ bs) ≡ o → Reads (b ∷ bs) × NearIf (entry_of ((b ∷ bs) ++ 13 ∷ [])) (entry_of (b ∷ bs))
unfolding before after
cr_at b bs r q None e = absurd (no_equals ((b ∷ bs) ++ 13 ∷ []) q (at_cr (b ∷ bs) ∙ e) r)
cr_at b bs r q (Some at) e = by_key b bs r q at e (undone (take at (b ∷ bs))) refl

cr_some : (b : ℕ) (bs : List ℕ) → Reads ((b ∷ bs) ++ 13 ∷ []) → Reads (b ∷ bs) × NearIf (entry_of ((b ∷ bs) ++ 13 ∷ [])) (entry_of (b ∷ bs))
cr_some b bs r = elim (bool_cases (b == 35)) [
  | inl q ↦ quiet_cr b bs r q
  | inr q ↦ cr_at b bs r q (equals_at (b ∷ bs)) refl
]

only_cr : Reads (13 ∷ []) → ⊥
unfolding equals_at equals_from
only_cr r = no_equals (13 ∷ []) refl refl r

-- a line that is read is read without a CR at its end, but for that CR
pub cr_line : (s : List ℕ) → Reads (s ++ 13 ∷ []) → Reads s × NearIf (entry_of (s ++ 13 ∷ [])) (entry_of s)
cr_line [] r = absurd (only_cr r)
cr_line (b ∷ bs) r = cr_some b bs r
