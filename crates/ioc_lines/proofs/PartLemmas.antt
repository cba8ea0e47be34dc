-- Lines with another pin in their key: what stands from the last dot on is read as before.
use Rattle.std.proofs.Common.{◌≡◌, ℕ, zero, suc, ◌+◌, ◌<◌, ◌==◌, List, [], ◌∷◌, ◌++◌, length, drop, Bool, true, false, Option, Some, None, refl, sym, ap, ◌∙◌, inl, inr, append_assoc, length-append, arith}
use Rattle.std.specs.Prelude.{◌||◌, IsSomeAnd}
use Rattle.std.proofs.lemmas.Bool.Decides.{nat_tests}
use Rattle.res_base.proofs.SumLemmas.{bool_cases}
use Rattle.ioc_text.specs.Lines.{after_bytes, equals_at, equals_from, is_escapable, is_quiet, undone, undone_from}
use Rattle.ioc_lines.specs.Lines.{Keyed, escaped, escaped_byte, first_or_later, is_special, keyed, keyed_at, last_dot, rest_from}
use Rattle.ioc_lines.specs.Lines.{with_pin}
use Rattle.ioc_lines.proofs.NameLemmas.{byte_read, escaped_first, no_backslash}
use Rattle.ioc_lines.proofs.DivideLemmas.{cut, drop_past, prefix_is, prefix_read, key_had, long, some_same, take_prefix}

abbrev Bytes : Type 0
Bytes = Option (List ℕ)

-- what is read after a byte is read of the rest
record Rest (b : ℕ) (o : Bytes) (key : List ℕ) : Type 0 where
  more : List ℕ
  pub read : o ≡ Some more
  whole : b ∷ more ≡ key

rest_of : (b : ℕ) (o : Bytes) (key : List ℕ) → after_bytes (b ∷ []) o ≡ Some key → Rest b o key
rest_of b None key e = absurd cc
rest_of b (Some more) key e = record { more = more; read = refl; whole = cc }

no_dot : (b : ℕ) → is_escapable b ≡ true → (b == 46) ≡ false
no_dot b e = elim (bool_cases (b == 46)) [
  | inl t ↦ let is : b ≡ 46 = grind (arith, nat_tests) in let f : is_escapable 46 ≡ true = ap is_escapable (sym is) ∙ e in absurd cc
  | inr t ↦ t
]

dot_after : (b : ℕ) (o : Option ℕ) (dot : ℕ) → (b == 46) ≡ false → first_or_later b o ≡ Some dot → (d : ℕ) × (o ≡ Some d) × (dot ≡ 1 + d)
dot_after b None dot n e = let f : (let x : Option ℕ = None in x) ≡ Some dot = rw n at e in absurd cc
dot_after b (Some d) dot n e = (d, refl, cc)

none_by : (b : ℕ) (bs more : List ℕ) (o : Option ℕ) → last_dot more ≡ o → first_or_later b o ≡ None → (last_dot more ≡ None → last_dot bs ≡ None) → first_or_later b (last_dot bs) ≡ None
none_by b bs more None q e f = rw (f q) e
none_by b bs more (Some d) q e f = absurd cc

none_all : (b : ℕ) (bs more : List ℕ) → first_or_later b (last_dot more) ≡ None → (last_dot more ≡ None → last_dot bs ≡ None) → first_or_later b (last_dot bs) ≡ None
none_all b bs more e f = none_by b bs more (last_dot more) refl e f

-- escapes undone, a text without a dot had none
undotted : (p : Bool) (raw key : List ℕ) → undone_from p raw ≡ Some key → last_dot key ≡ None → last_dot raw ≡ None
unfolding undone_from
undotted true [] key e n = absurd cc
undotted false [] key e n = refl
undotted true (b ∷ bs) key e n = elim (bool_cases (is_escapable b)) [
  | inl t ↦
      let f : after_bytes (b ∷ []) (undone_from false bs) ≡ Some key = rw t at e in
      let r = rest_of b (undone_from false bs) key f in
      none_all b bs r.more (ap last_dot r.whole ∙ n) (λ m. undotted false bs r.more r.read m)
  | inr t ↦ let f : (let x : Bytes = None in x) ≡ Some key = rw t at e in absurd cc
]
undotted false (b ∷ bs) key e n = elim (bool_cases (b == 92)) [
  | inl t ↦
      let f : undone_from true bs ≡ Some key = rw t at e in
      let is : b ≡ 92 = grind (arith, nat_tests) in
      rw (is, undotted true bs key f n) refl
  | inr t ↦
      let f : after_bytes (b ∷ []) (undone_from false bs) ≡ Some key = rw t at e in
      let r = rest_of b (undone_from false bs) key f in
      none_all b bs r.more (ap last_dot r.whole ∙ n) (λ m. undotted false bs r.more r.read m)
]

-- the last dot of a text is that of what is read of it, and what stands from there on is read by itself
pub record Cuts (p : Bool) (raw key : List ℕ) (dot : ℕ) : Type 0 where
  pub at : ℕ
  pub there : last_dot raw ≡ Some at
  pub within : at < length raw
  pub read : undone_from false (drop at raw) ≡ Some (drop dot key)
  -- no pair goes over the dot
  pub apart : (i j : ℕ) (more : List ℕ) → j ≡ i + length raw → equals_from p i (raw ++ 61 ∷ more) ≡ Some j → equals_from false (i + at) (drop at raw ++ 61 ∷ more) ≡ Some j

from_same : (q : Bool) (i k j : ℕ) (bytes : List ℕ) → i ≡ k → equals_from q i bytes ≡ Some j → equals_from q k bytes ≡ Some j
from_same q i k j bytes e h = ap (λ (n : ℕ). equals_from q n bytes) (sym e) ∙ h

dropped : (b : ℕ) (more key : List ℕ) (d dot : ℕ) → b ∷ more ≡ key → dot ≡ 1 + d → drop d more ≡ drop dot key
dropped b more key d dot w e = let next : dot ≡ suc d = omega (arith, e) in rw (sym w, next) refl

passed : (b i j : ℕ) (bs more : List ℕ) → (b == 92) ≡ false → j ≡ i + suc (length bs) → equals_from false i (b ∷ (bs ++ 61 ∷ more)) ≡ Some j → equals_from false (i + 1) (bs ++ 61 ∷ more) ≡ Some j
unfolding equals_from
passed b i j bs more n long h = elim (bool_cases (b == 61)) [
  | inl t ↦ let f : Some i ≡ Some j = rw t at h in let same : i ≡ j = cc in absurd (omega (arith, same, long))
  | inr t ↦ let f : equals_from (b == 92) (i + 1) (bs ++ 61 ∷ more) ≡ Some j = rw t at h in rw n at f
]

plain : (b : ℕ) (bs key : List ℕ) (dot : ℕ) (r : Rest b (undone_from false bs) key) → (b == 92) ≡ false → last_dot key ≡ Some dot → (o : Option ℕ) → last_dot r.more ≡ o
    → (undone_from false bs ≡ Some r.more → (d : ℕ) → last_dot r.more ≡ Some d → Cuts false bs r.more d) → Cuts false (b ∷ bs) key dot
unfolding undone_from equals_from
plain b bs key dot r n d (Some d2) q h =
    let c = h r.read d2 q in
    let f : first_or_later b (Some d2) ≡ Some dot = ap (first_or_later b) (sym q) ∙ ap last_dot r.whole ∙ d in
    let next : dot ≡ 1 + d2 = cc in
    record {
      at = suc c.at;
      there = rw c.there (ap Some (omega arith));
      within = omega (arith, c.within);
      read = c.read ∙ ap Some (dropped b r.more key d2 dot r.whole next);
      apart = λ i j more long g. from_same false (i + 1 + c.at) (i + suc c.at) j (drop c.at bs ++ 61 ∷ more) (omega arith) (c.apart (i + 1) j more (omega (arith, long)) (passed b i j bs more n (omega (arith, long)) g));
    }
plain b bs key dot r n d None q h = elim (bool_cases (b == 46)) [
  | inl t ↦
      let f : first_or_later b None ≡ Some dot = ap (first_or_later b) (sym q) ∙ ap last_dot r.whole ∙ d in
      let g : Some 0 ≡ Some dot = rw t at f in
      let zero_dot : 0 ≡ dot = cc in
      let none : last_dot bs ≡ None = undotted false bs r.more r.read q in
      record {
        at = 0;
        there = rw (none, t) refl;
        within = omega arith;
        read = rw (n, r.read) (ap Some (r.whole ∙ ap (λ (k : ℕ). drop k key) zero_dot));
        apart = λ i j more long g. from_same false i (i + 0) j (b ∷ (bs ++ 61 ∷ more)) (omega arith) g;
      }
  | inr t ↦
      let f : first_or_later b None ≡ Some dot = ap (first_or_later b) (sym q) ∙ ap last_dot r.whole ∙ d in
      let g : (let x : Option ℕ = None in x) ≡ Some dot = rw t at f in
      absurd cc
]

pub cuts : (p : Bool) (raw key : List ℕ) (dot : ℕ) → undone_from p raw ≡ Some key → last_dot key ≡ Some dot → Cuts p raw key dot
unfolding undone_from equals_from
cuts true [] key dot e d = absurd cc
cuts false [] key dot e d = let f : key ≡ [] = cc in let g : last_dot [] ≡ Some dot = ap last_dot (sym f) ∙ d in absurd cc
cuts true (b ∷ bs) key dot e d = elim (bool_cases (is_escapable b)) [
  | inl t ↦
      let f : after_bytes (b ∷ []) (undone_from false bs) ≡ Some key = rw t at e in
      let r = rest_of b (undone_from false bs) key f in
      let after = dot_after b (last_dot r.more) dot (no_dot b t) (ap last_dot r.whole ∙ d) in
      let c = cuts false bs r.more after.0 r.read after.1 in
      record {
        at = suc c.at;
        there = rw c.there (ap Some (omega arith));
        within = omega (arith, c.within);
        read = c.read ∙ ap Some (dropped b r.more key after.0 dot r.whole after.2);
        apart = λ i j more long h. from_same false (i + 1 + c.at) (i + suc c.at) j (drop c.at bs ++ 61 ∷ more) (omega arith) (c.apart (i + 1) j more (omega (arith, long)) h);
      }
  | inr t ↦ let f : (let x : Bytes = None in x) ≡ Some key = rw t at e in absurd cc
]
cuts false (b ∷ bs) key dot e d = elim (bool_cases (b == 92)) [
  | inl t ↦
      let f : undone_from true bs ≡ Some key = rw t at e in
      let is : b ≡ 92 = grind (arith, nat_tests) in
      let c = cuts true bs key dot f d in
      record {
        at = suc c.at;
        there = rw c.there (ap Some (omega arith));
        within = omega (arith, c.within);
        read = c.read;
        apart = λ i j more long h.
            let g : equals_from true (i + 1) (bs ++ 61 ∷ more) ≡ Some j = rw is at h in
            from_same false (i + 1 + c.at) (i + suc c.at) j (drop c.at bs ++ 61 ∷ more) (omega arith) (c.apart (i + 1) j more (omega (arith, long)) g);
      }
  | inr t ↦
      let f : after_bytes (b ∷ []) (undone_from false bs) ≡ Some key = rw t at e in
      let r = rest_of b (undone_from false bs) key f in
      plain b bs key dot r t d (last_dot r.more) refl (λ e2 d2 dd. cuts false bs r.more d2 e2 dd)
]

-- ---- what stands behind an escaped name

third_false : (a b c d e : Bool) → ((((a || b) || c) || d) || e) ≡ false → c ≡ false
third_false true b c d e h = absurd cc
third_false false true c d e h = absurd cc
third_false false false true d e h = absurd cc
third_false false false false d e h = refl

fourth_false : (a b c d e : Bool) → ((((a || b) || c) || d) || e) ≡ false → d ≡ false
fourth_false true b c d e h = absurd cc
fourth_false false true c d e h = absurd cc
fourth_false false false true d e h = absurd cc
fourth_false false false false true e h = absurd cc
fourth_false false false false false e h = refl

no_equals : (b : ℕ) → is_special b ≡ false → (b == 61) ≡ false
no_equals b h = third_false (b == 92) (b == 58) (b == 61) (b == 35) (b == 33) h

no_mark : (b : ℕ) → is_special b ≡ false → (b == 35) ≡ false
no_mark b h = fourth_false (b == 92) (b == 58) (b == 61) (b == 35) (b == 33) h

pub name_passed : (i : ℕ) (name more : List ℕ) → equals_from false i (escaped name ++ more) ≡ equals_from false (i + length (escaped name)) more
unfolding equals_from escaped
name_passed i [] more = ap (λ (n : ℕ). equals_from false n more) (omega arith)
name_passed i (b ∷ bs) more = elim (bool_cases (is_special b)) [
  | inl t ↦ rw t (name_passed (i + 1 + 1) bs more ∙ ap (λ (n : ℕ). equals_from false n more) (omega arith))
  | inr t ↦ rw (t, no_equals b t, no_backslash b t) (name_passed (i + 1) bs more ∙ ap (λ (n : ℕ). equals_from false n more) (omega arith))
]

nothing_before : (o : Bytes) → o ≡ after_bytes [] o
nothing_before None = refl
nothing_before (Some bytes) = refl

one_before : (b : ℕ) (bs : List ℕ) (o : Bytes) → after_bytes (b ∷ []) (after_bytes bs o) ≡ after_bytes (b ∷ bs) o
one_before b bs None = refl
one_before b bs (Some bytes) = refl

name_prefix : (name more : List ℕ) → undone_from false (escaped name ++ more) ≡ after_bytes name (undone_from false more)
unfolding escaped
name_prefix [] more = nothing_before (undone_from false more)
name_prefix (b ∷ bs) more =
    ap (λ (xs : List ℕ). undone_from false (xs ++ more)) (escaped_first b bs)
    ∙ ap (undone_from false) (append_assoc (escaped_byte b) (escaped bs) more)
    ∙ byte_read b (escaped bs ++ more)
    ∙ ap (after_bytes (b ∷ [])) (name_prefix bs more)
    ∙ one_before b bs (undone_from false more)

pub loud_name : (name more : List ℕ) → 0 < length name → is_quiet (escaped name ++ more) ≡ false
unfolding escaped
loud_name [] more l = absurd (omega arith)
loud_name (b ∷ bs) more l = elim (bool_cases (is_special b)) [
  | inl t ↦ rw t refl
  | inr t ↦ rw t (no_mark b t)
]

moved : ℕ → Option ℕ → Option ℕ
moved k None = None
moved k (Some n) = Some (n + k)

shift : (q : Bool) (i k : ℕ) (bytes : List ℕ) → equals_from q (i + k) bytes ≡ moved k (equals_from q i bytes)
unfolding equals_from moved
shift true i k [] = refl
shift false i k [] = refl
shift true i k (b ∷ bs) = ap (λ (n : ℕ). equals_from false n bs) (omega arith) ∙ shift false (i + 1) k bs
shift false i k (b ∷ bs) = elim (bool_cases (b == 61)) [
  | inl t ↦ rw t refl
  | inr t ↦ rw t (ap (λ (n : ℕ). equals_from (b == 92) n bs) (omega arith) ∙ shift (b == 92) (i + 1) k bs)
]

unmoved : (k t : ℕ) (o : Option ℕ) → moved k o ≡ Some (k + t) → o ≡ Some t
unfolding moved
unmoved k t None e = absurd cc
unmoved k t (Some n) e = let same : n + k ≡ k + t = some_same (n + k) (k + t) e in ap Some (omega (arith, same))

other_start : (at t m : ℕ) (bytes : List ℕ) → equals_from false at bytes ≡ Some (at + t) → equals_from false m bytes ≡ Some (m + t)
unfolding moved
other_start at t m bytes e =
    let from_zero : equals_from false 0 bytes ≡ Some t = unmoved at t (equals_from false 0 bytes) (sym (shift false 0 at bytes) ∙ ap (λ (n : ℕ). equals_from false n bytes) (omega arith) ∙ e) in
    ap (λ (n : ℕ). equals_from false n bytes) (omega arith) ∙ shift false 0 m bytes ∙ ap (moved m) from_zero ∙ ap Some (omega arith)

drop_prefix : (at : ℕ) (prefix more : List ℕ) → at < length prefix → drop at (prefix ++ more) ≡ drop at prefix ++ more
drop_prefix zero prefix more l = refl
drop_prefix (suc at) [] more l = absurd (omega arith)
drop_prefix (suc at) (b ∷ bs) more l = drop_prefix at bs more (omega arith)

length_drop : (at : ℕ) (xs : List ℕ) → at < length xs → at + length (drop at xs) ≡ length xs
length_drop zero xs l = omega arith
length_drop (suc at) [] l = absurd (omega arith)
length_drop (suc at) (x ∷ xs) l = let n = length_drop at xs (omega arith) in omega (arith, n)

module _ (says : List ℕ) (k : Keyed) (h : keyed says ≡ Some k) (dot : ℕ) (d : last_dot k.key ≡ Some dot) (name : List ℕ) (some : 0 < length name) where
  pub prefix : List ℕ
  prefix = (cut says k h).prefix

  pub rest : List ℕ
  rest = (cut says k h).rest

  pub parts : Cuts false prefix k.key dot
  unfolding undone prefix
  parts = cuts false prefix k.key dot (prefix_read says k h) d

  pub tail : List ℕ
  tail = drop parts.at prefix

  pub renamed : with_pin says k.equals (escaped name) ≡ (escaped name ++ tail) ++ 61 ∷ rest
  unfolding with_pin prefix rest tail
  renamed =
      ap (λ (xs : List ℕ). escaped name ++ rest_from says (last_dot xs)) (prefix_is says k h)
      ∙ ap (λ (o : Option ℕ). escaped name ++ rest_from says o) parts.there
      ∙ ap (λ (xs : List ℕ). escaped name ++ drop parts.at xs) (cut says k h).whole
      ∙ ap (λ (xs : List ℕ). escaped name ++ xs) (drop_prefix parts.at prefix (61 ∷ rest) parts.within)
      ∙ sym (append_assoc (escaped name) tail (61 ∷ rest))

  pub stands : equals_at ((escaped name ++ tail) ++ 61 ∷ rest) ≡ Some (length (escaped name ++ tail))
  unfolding equals_at prefix rest tail
  stands =
      let t = length tail in
      let all : equals_from false 0 (prefix ++ 61 ∷ rest) ≡ Some (length prefix) = (cut says k h).any rest ∙ ap Some (sym (long says k h)) in
      let here : equals_from false (0 + parts.at) (tail ++ 61 ∷ rest) ≡ Some (length prefix) = parts.apart 0 (length prefix) rest (omega arith) all in
      let sum : length prefix ≡ (0 + parts.at) + t = let n = length_drop parts.at prefix parts.within in omega (arith, n) in
      ap (equals_from false 0) (append_assoc (escaped name) tail (61 ∷ rest))
      ∙ name_passed 0 name (tail ++ 61 ∷ rest)
      ∙ other_start (0 + parts.at) t (0 + length (escaped name)) (tail ++ 61 ∷ rest) (here ∙ ap Some sum)
      ∙ ap Some (let n = length-append (escaped name) tail in omega (arith, n))

  pub read : undone (escaped name ++ tail) ≡ Some (name ++ drop dot k.key)
  unfolding undone tail
  read = name_prefix name tail ∙ ap (after_bytes name) parts.read

  pub new_key : Keyed
  new_key = keyed_at (name ++ drop dot k.key) (length (escaped name ++ tail))

  pub new_is : keyed ((escaped name ++ tail) ++ 61 ∷ rest) ≡ Some new_key
  unfolding new_key
  new_is =
      key_had ((escaped name ++ tail) ++ 61 ∷ rest) (length (escaped name ++ tail)) (name ++ drop dot k.key)
      (ap is_quiet (append_assoc (escaped name) tail (61 ∷ rest)) ∙ loud_name name (tail ++ 61 ∷ rest) some) stands
      (ap undone (take_prefix (escaped name ++ tail) (61 ∷ rest)) ∙ read)

  pub value_stays : drop (length (escaped name ++ tail) + 1) ((escaped name ++ tail) ++ 61 ∷ rest) ≡ drop (k.equals + 1) says
  unfolding prefix rest
  value_stays =
      drop_past (escaped name ++ tail) 61 rest
      ∙ sym (ap (λ (n : ℕ). drop (n + 1) says) (sym (long says k h)) ∙ ap (drop (length prefix + 1)) (cut says k h).whole ∙ drop_past prefix 61 rest)

  pub pin_changes : IsSomeAnd (keyed (with_pin says k.equals (escaped name)))
      (λ (j : Keyed). (j.key ≡ name ++ drop dot k.key) × (drop (j.equals + 1) (with_pin says k.equals (escaped name)) ≡ drop (k.equals + 1) says))
  unfolding new_key
  pin_changes = rw (renamed, new_is) (refl, value_stays)

  -- what a line says with another pin in its key
  pub record IsRenamed : Type 0 where
    pub cut_at : ℕ
    pub is : with_pin says k.equals (escaped name) ≡ (escaped name ++ drop cut_at (cut says k h).prefix) ++ 61 ∷ (cut says k h).rest
    pub by : Keyed
    pub keyed_is : keyed (with_pin says k.equals (escaped name)) ≡ Some by
    pub key_is : by.key ≡ name ++ drop dot k.key
    pub raw_is : drop (by.equals + 1) (with_pin says k.equals (escaped name)) ≡ drop (k.equals + 1) says

  pub is_renamed : IsRenamed
  unfolding prefix rest tail new_key
  is_renamed = record { cut_at = parts.at; is = renamed; by = new_key; keyed_is = ap keyed renamed ∙ new_is; key_is = refl; raw_is = ap (drop (new_key.equals + 1)) renamed ∙ value_stays }
