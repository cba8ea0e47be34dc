-- What a key's line says, by the entries.
use Rattle.std.proofs.Common.{◌≡◌, ◌≢◌, ◌⊎◌, ℕ, ◌+◌, ◌<◌, List, [], ◌∷◌, ◌++◌, map, Bool, true, false, Option, Some, None, refl, sym, ap, ◌∙◌, subst, inl, inr, append_assoc, append-nil, arith}
use Rattle.std.specs.BTreeMap.{insert_entry}
use Rattle.std.specs.Ordering.{nat_cmp, match_ordering}
use Rattle.std.specs.declared.cmp.Ordering.{Ordering}
use Rattle.std.specs.declared.cmp.Ordering.TheVariants.{Less, Equal, Greater}
use Rattle.std.specs.Str.{bytes_eq}
use Rattle.std.proofs.lemmas.Slice.Eq.{bytes_eq-Decides}
use Rattle.std.proofs.lemmas.List.{map-append}
use Rattle.res_base.specs.Lists.{Each, Member, Pairwise}
use Rattle.res_base.proofs.SumLemmas.{bool_cases}
use Rattle.ioc_text.specs.Lines.{line_at, pin_number}
use Rattle.ioc_text.specs.declared.line.Line.{Line}
use Rattle.ioc_project.specs.Project.{numbered, pin_lines, with_number}
use Rattle.ioc_lines.specs.Entries.{AreApart, Differ, Entry, entries, entry_if, entry_of, entry_on, inserted, lines_from, lines_if, lookup, pin_values, pinned, pinned_by, value_of}

-- ---- from lines to entries

pub entries_on : (n : ℕ) (ls : List (List ℕ)) → map entry_on (lines_from n ls) ≡ entries ls
entries_on n [] = refl
entries_on n (b ∷ ls) = map-append entry_on (lines_if n (entry_of b)) (lines_from (n + 1) ls) ∙ one (entry_of b) ∙ ap (λ (es : List Entry). entry_if (entry_of b) ++ es) (entries_on (n + 1) ls)
  where
    one : (o : Option Entry) → map entry_on (lines_if n o) ++ map entry_on (lines_from (n + 1) ls) ≡ entry_if o ++ map entry_on (lines_from (n + 1) ls)
    one None = refl
    one (Some e) = refl

pub line_value : (ioc : List Line) (key : List ℕ) → value_of (line_at ioc key) ≡ lookup (map entry_on ioc) key
unfolding line_at
line_value [] key = refl
line_value (l ∷ ls) key = elim (bool_cases (bytes_eq key l.key)) [ inl t ↦ rw t refl | inr t ↦ rw t (line_value ls key) ]

each_apart : (l : Line) (ls : List Line) → Each (Differ l) ls → Each (λ (e : Entry). l.key ≢ e.0) (map entry_on ls)
each_apart l [] h = tt
each_apart l (m ∷ ls) h = (h.0, each_apart l ls h.1)

apart_each : (l : Line) (ls : List Line) → Each (λ (e : Entry). l.key ≢ e.0) (map entry_on ls) → Each (Differ l) ls
apart_each l [] h = tt
apart_each l (m ∷ ls) h = (h.0, apart_each l ls h.1)

pub entries_apart : (ls : List Line) → Pairwise Differ ls → AreApart (map entry_on ls)
entries_apart [] h = tt
entries_apart (l ∷ ls) h = (each_apart l ls h.0, entries_apart ls h.1)

pub lines_apart : (ls : List Line) → AreApart (map entry_on ls) → Pairwise Differ ls
lines_apart [] h = tt
lines_apart (l ∷ ls) h = (apart_each l ls h.0, lines_apart ls h.1)

-- ---- entries by their keys

key_same : (a b c d : List ℕ) → ◌≡◌ {A = Entry} (a, b) (c, d) → (a ≡ c) × (b ≡ d)
key_same a b c d e = (ap (λ (x : Entry). x.0) e, ap (λ (x : Entry). x.1) e)

not_here : (es : List Entry) (k key value : List ℕ) → Each (λ (e : Entry). k ≢ e.0) es → Member (key, value) es → bytes_eq key k ≡ false
not_here [] k key value h m = absurd m
not_here (e ∷ es) k key value h (inl q) = elim (bool_cases (bytes_eq key k)) [
  | inl t ↦ absurd (h.0 (sym ((bytes_eq-Decides key k).0 t) ∙ (key_same key value e.0 e.1 q).0))
  | inr t ↦ t
]
not_here (e ∷ es) k key value h (inr m) = not_here es k key value h.1 m

pub lookup_in : (es : List Entry) (key value : List ℕ) → AreApart es → Member (key, value) es → lookup es key ≡ Some value
lookup_in [] key value h m = absurd m
lookup_in (e ∷ es) key value h (inl q) =
    let same = key_same key value e.0 e.1 q in
    let t : bytes_eq key e.0 ≡ true = (bytes_eq-Decides key e.0).1 same.0 in
    rw t (ap Some (sym same.1))
lookup_in (e ∷ es) key value h (inr m) =
    let t : bytes_eq key e.0 ≡ false = not_here es e.0 key value h.0 m in
    rw t (lookup_in es key value h.1 m)

pub in_lookup : (es : List Entry) (key value : List ℕ) → lookup es key ≡ Some value → Member (key, value) es
in_lookup [] key value h = absurd cc
in_lookup (e ∷ es) key value h = elim (bool_cases (bytes_eq key e.0)) [
  | inl t ↦
      let f : Some e.1 ≡ Some value = rw t at h in
      let v : e.1 ≡ value = cc in
      let k : key ≡ e.0 = (bytes_eq-Decides key e.0).0 t in
      inl (ap (λ (x : List ℕ). (x, value)) k ∙ ap (λ (x : List ℕ). (e.0, x)) (sym v))
  | inr t ↦ let f : lookup es key ≡ Some value = rw t at h in inr (in_lookup es key value f)
]

pub lookup_out : (es : List Entry) (key : List ℕ) → ((value : List ℕ) → Member (key, value) es → ⊥) → lookup es key ≡ None
lookup_out es key h = by (lookup es key) refl
  where
    by : (o : Option (List ℕ)) → lookup es key ≡ o → lookup es key ≡ None
    by None e = e
    by (Some value) e = absurd (h value (in_lookup es key value e))

pub out_lookup : (es : List Entry) (key value : List ℕ) → AreApart es → lookup es key ≡ None → Member (key, value) es → ⊥
out_lookup es key value a h m = let f : Some value ≡ None = sym (lookup_in es key value a m) ∙ h in absurd cc

-- ---- keys Mcu.Pin<k>

abbrev Placed : Type 0
Placed = List (ℕ × List ℕ)

abbrev shown : List (ℕ × Line) → Placed
shown placed = map (λ (e : ℕ × Line). (e.0, e.1.value)) placed

shown_by : (o : Ordering) (a b c : List (ℕ × Line)) → shown (match_ordering o a b c) ≡ match_ordering o (shown a) (shown b) (shown c)
shown_by Less a b c = refl
shown_by Equal a b c = refl
shown_by Greater a b c = refl

shown_insert : (es : List (ℕ × Line)) (k : ℕ) (line : Line) → shown (insert_entry nat_cmp es k line) ≡ insert_entry nat_cmp (shown es) k line.value
shown_insert [] k line = refl
shown_insert (e ∷ es) k line =
    shown_by (nat_cmp k e.0) ((k, line) ∷ e ∷ es) ((e.0, line) ∷ es) (e ∷ insert_entry nat_cmp es k line)
    ∙ ap (λ (more : Placed). match_ordering (nat_cmp k e.0) ((k, line.value) ∷ shown (e ∷ es)) ((e.0, line.value) ∷ shown es) ((e.0, e.1.value) ∷ more)) (shown_insert es k line)

shown_all : (placed : List (ℕ × Line)) (lines : List Line) → shown (numbered placed lines) ≡ inserted (shown placed) (pinned (map entry_on lines))
shown_all placed [] = refl
shown_all placed (l ∷ ls) = shown_all (with_number placed (pin_number l.key) l) ls ∙ one (pin_number l.key)
  where
    one : (o : Option ℕ) → inserted (shown (with_number placed o l)) (pinned (map entry_on ls)) ≡ inserted (shown placed) (pinned_by o l.value ++ pinned (map entry_on ls))
    one None = refl
    one (Some k) = ap (λ (p : Placed). inserted p (pinned (map entry_on ls))) (shown_insert placed k l)

values_shown : (placed : List (ℕ × Line)) → map (λ (l : Line). l.value) (map (λ (e : ℕ × Line). e.1) placed) ≡ map (λ (e : ℕ × List ℕ). e.1) (shown placed)
values_shown [] = refl
values_shown (e ∷ es) = ap (λ (vs : List (List ℕ)). e.1.value ∷ vs) (values_shown es)

-- the values of the lines Mcu.Pin<k>, with k ascending
pub pins_shown : (ioc : List Line) → map (λ (l : Line). l.value) (pin_lines ioc) ≡ pin_values (map entry_on ioc)
unfolding pin_lines
pins_shown ioc = values_shown (numbered [] ioc) ∙ ap (λ (p : Placed). map (λ (e : ℕ × List ℕ). e.1) p) (shown_all [] ioc)

pub pinned_append : (es fs : List Entry) → pinned (es ++ fs) ≡ pinned es ++ pinned fs
pinned_append [] fs = refl
pinned_append (e ∷ es) fs = ap (λ (p : Placed). pinned_by (pin_number e.0) e.1 ++ p) (pinned_append es fs) ∙ sym (append_assoc (pinned_by (pin_number e.0) e.1) (pinned es) (pinned fs))

pub inserted_append : (placed es fs : Placed) → inserted placed (es ++ fs) ≡ inserted (inserted placed es) fs
inserted_append placed [] fs = refl
inserted_append placed (e ∷ es) fs = inserted_append (insert_entry nat_cmp placed e.0 e.1) es fs

-- the same k, and values that go together
abbrev pub Along : (List ℕ → List ℕ → Type 0) → Placed → Placed → Type 0
Along R [] [] = Unit {0}
Along R [] (f ∷ fs) = ⊥
Along R (e ∷ es) [] = ⊥
Along R (e ∷ es) (f ∷ fs) = ((e.0 ≡ f.0) × R e.1 f.1) × Along R es fs

module _ (R : List ℕ → List ℕ → Type 0) where
  along_by : (o : Ordering) (a b c a2 b2 c2 : Placed) → Along R a a2 → Along R b b2 → Along R c c2 → Along R (match_ordering o a b c) (match_ordering o a2 b2 c2)
  along_by Less a b c a2 b2 c2 x y z = x
  along_by Equal a b c a2 b2 c2 x y z = y
  along_by Greater a b c a2 b2 c2 x y z = z

  along_insert : (es fs : Placed) (k : ℕ) (v w : List ℕ) → Along R es fs → R v w → Along R (insert_entry nat_cmp es k v) (insert_entry nat_cmp fs k w)
  along_insert [] [] k v w h r = ((refl, r), tt)
  along_insert [] (f ∷ fs) k v w h r = absurd h
  along_insert (e ∷ es) [] k v w h r = absurd h
  along_insert (e ∷ es) (f ∷ fs) k v w h r =
      subst (λ (n : ℕ). Along R (match_ordering (nat_cmp k e.0) ((k, v) ∷ e ∷ es) ((e.0, v) ∷ es) (e ∷ insert_entry nat_cmp es k v))
      (match_ordering (nat_cmp k n) ((k, w) ∷ f ∷ fs) ((f.0, w) ∷ fs) (f ∷ insert_entry nat_cmp fs k w))) h.0.0
      (along_by (nat_cmp k e.0) ((k, v) ∷ e ∷ es) ((e.0, v) ∷ es) (e ∷ insert_entry nat_cmp es k v) ((k, w) ∷ f ∷ fs) ((f.0, w) ∷ fs) (f ∷ insert_entry nat_cmp fs k w)
      ((refl, r), h) ((h.0.0, r), h.1) (h.0, along_insert es fs k v w h.1 r))

  pub along_inserted : (placed other es fs : Placed) → Along R placed other → Along R es fs → Along R (inserted placed es) (inserted other fs)
  along_inserted placed other [] [] p h = p
  along_inserted placed other [] (f ∷ fs) p h = absurd h
  along_inserted placed other (e ∷ es) [] p h = absurd h
  along_inserted placed other (e ∷ es) (f ∷ fs) p h =
      along_inserted (insert_entry nat_cmp placed e.0 e.1) (insert_entry nat_cmp other f.0 f.1) es fs
      (subst (λ (n : ℕ). Along R (insert_entry nat_cmp placed e.0 e.1) (insert_entry nat_cmp other n f.1)) h.0.0 (along_insert placed other e.0 e.1 f.1 p h.0.1)) h.1

greater : (n k : ℕ) → n < k → nat_cmp k n ≡ Greater
greater n k l = grind arith

behind : (placed : Placed) (k : ℕ) (v : List ℕ) → Each (λ (e : ℕ × List ℕ). e.0 < k) placed → insert_entry nat_cmp placed k v ≡ placed ++ (k, v) ∷ []
behind [] k v h = refl
behind (e ∷ es) k v h = rw (greater e.0 k h.0) (ap (λ (p : Placed). e ∷ p) (behind es k v h.1))

-- numbers that rise from a first one on
abbrev pub Rise : ℕ → Placed → Type 0
Rise k [] = Unit {0}
Rise k (e ∷ es) = (e.0 ≡ k) × Rise (k + 1) es

below_more : (placed : Placed) (k : ℕ) → Each (λ (e : ℕ × List ℕ). e.0 < k) placed → Each (λ (e : ℕ × List ℕ). e.0 < k + 1) placed
below_more [] k h = tt
below_more (e ∷ es) k h = (omega (arith, h.0), below_more es k h.1)

below_push : (placed : Placed) (k : ℕ) (v : List ℕ) → Each (λ (e : ℕ × List ℕ). e.0 < k) placed → Each (λ (e : ℕ × List ℕ). e.0 < k) (placed ++ []) → Each (λ (e : ℕ × List ℕ). e.0 < k + 1) (placed ++ (k, v) ∷ [])
below_push [] k v h g = (omega arith, tt)
below_push (e ∷ es) k v h g = (omega (arith, h.0), below_push es k v h.1 g.1)

-- what is numbered above all the others stands behind them
pub inserted_behind : (placed es : Placed) (k : ℕ) → Each (λ (e : ℕ × List ℕ). e.0 < k) placed → Rise k es → inserted placed es ≡ placed ++ es
inserted_behind placed [] k h r = sym (append-nil placed)
inserted_behind placed (e ∷ es) k h r =
    let at : Each (λ (f : ℕ × List ℕ). f.0 < e.0) placed = subst (λ (n : ℕ). Each (λ (f : ℕ × List ℕ). f.0 < n) placed) (sym r.0) h in
    ap (λ (p : Placed). inserted p es) (behind placed e.0 e.1 at)
    ∙ inserted_behind (placed ++ e ∷ []) es (k + 1) (subst (λ (n : ℕ). Each (λ (f : ℕ × List ℕ). f.0 < k + 1) (placed ++ (n, e.1) ∷ [])) (sym r.0) (below_push placed k e.1 h (subst (Each (λ (f : ℕ × List ℕ). f.0 < k)) (sym (append-nil placed)) h))) r.1
    ∙ append_assoc placed (e ∷ []) es
