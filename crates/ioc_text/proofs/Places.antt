-- The place of a key's line.
use Rattle.std.proofs.Common.{◌≡◌, ℕ, zero, suc, ◌<◌, ◌≤◌, List, [], ◌∷◌, length, take, Bool, true, false, Option, Some, None, refl, sym, ap, ◌∙◌, subst, inl, inr, arith}
use Rattle.std.specs.Prelude.{is_some, slice_get, find}
use Rattle.std.specs.Str.{bytes_eq}
use Rattle.std.proofs.lemmas.Slice.Eq.{bytes_eq-Decides}
use Rattle.std.proofs.lemmas.Option.{slice_get_within}
use Rattle.res_base.proofs.SumLemmas.{bool_cases}
use Rattle.ioc_text.specs.Lines.{line_at}
use Rattle.ioc_text.specs.declared.line.Line.{Line}
use Rattle.ioc_text.specs.Index.{key_of, key_at, stood, IsEachOnce}

module _ {X : Type 0} (p : X → Bool) where
  -- where an item is found
  find_place : (xs : List X) → is_some (find p xs) ≡ true → (q : ℕ) × (x : X) × (q < length xs) × (slice_get xs q ≡ Some x) × (p x ≡ true)
  find_place [] h = absurd cc
  find_place (x ∷ xs) h = elim (bool_cases (p x)) [
    | inl t ↦ (0, x, omega arith, refl, t)
    | inr t ↦
        let more : is_some (find p xs) ≡ true = rw t at h in
        let r = find_place xs more in
        (suc r.0, r.1, omega arith, r.3, r.4)
  ]

  -- an item that none before it is like is the one that is found
  find_first : (xs : List X) (q : ℕ) (x : X) → slice_get xs q ≡ Some x → p x ≡ true → is_some (find p (take q xs)) ≡ false → find p xs ≡ Some x
  find_first [] q x e t h = absurd cc
  find_first (y ∷ ys) zero x e t h = let same : y ≡ x = cc in rw (same, t) refl
  find_first (y ∷ ys) (suc q) x e t h = elim (bool_cases (p y)) [
    | inl u ↦ let no : true ≡ false = rw u at h in absurd cc
    | inr u ↦
        let more : is_some (find p (take q ys)) ≡ false = rw u at h in
        rw u (find_first ys q x e t more)
  ]

  -- an item before a place
  find_before : (xs : List X) (q n : ℕ) (x : X) → slice_get xs q ≡ Some x → q < n → p x ≡ true → is_some (find p (take n xs)) ≡ true
  find_before [] q n x e lt t = absurd cc
  find_before (y ∷ ys) q zero x e lt t = absurd (omega arith)
  find_before (y ∷ ys) zero (suc n) x e lt t = let same : y ≡ x = cc in rw (same, t) refl
  find_before (y ∷ ys) (suc q) (suc n) x e lt t = elim (bool_cases (p y)) [
    | inl u ↦ rw u refl
    | inr u ↦ rw u (find_before ys q n x e (omega arith) t)
  ]

within_take : {X : Type 0} (xs : List X) (n q : ℕ) (x : X) → slice_get (take n xs) q ≡ Some x → slice_get xs q ≡ Some x
within_take [] zero q x e = absurd cc
within_take [] (suc n) q x e = absurd cc
within_take (y ∷ ys) zero q x e = absurd cc
within_take (y ∷ ys) (suc n) zero x e = e
within_take (y ∷ ys) (suc n) (suc q) x e = within_take ys n q x e

shorter_take : {X : Type 0} (xs : List X) (n : ℕ) → length (take n xs) ≤ n
shorter_take [] zero = omega arith
shorter_take [] (suc n) = omega arith
shorter_take (y ∷ ys) zero = omega arith
shorter_take (y ∷ ys) (suc n) = let r : length (take n ys) ≤ n = shorter_take ys n in omega arith

pub some_line : {X : Type 0} (xs : List X) (q : ℕ) → q < length xs → (x : X) × (slice_get xs q ≡ Some x)
some_line [] q h = absurd (omega arith)
some_line (x ∷ xs) zero h = (x, refl)
some_line (x ∷ xs) (suc q) h = some_line xs q (omega arith)

itself : (key : List ℕ) → bytes_eq key key ≡ true
itself key = (bytes_eq-Decides key key).1 refl

-- lines of one key
pub stood_by : (lines : List Line) (q place : ℕ) → q < place → q < length lines → key_at lines q ≡ key_at lines place → stood lines place ≡ true
unfolding line_at
stood_by lines q place lt in' same =
    let (line, at) = some_line lines q in' in
    let key : line.key ≡ key_at lines place = sym (ap key_of at) ∙ same in
    find_before (λ (l : Line). bytes_eq (key_at lines place) l.key) lines q place line at lt ((bytes_eq-Decides (key_at lines place) line.key).1 (sym key))

-- a key that stood before stood at a place
pub stood_at : (lines : List Line) (place : ℕ) → stood lines place ≡ true → (q : ℕ) × (q < place) × (q < length lines) × (key_at lines q ≡ key_at lines place)
unfolding line_at
stood_at lines place h =
    let found = find_place (λ (l : Line). bytes_eq (key_at lines place) l.key) (take place lines) h in
    let at : slice_get lines found.0 ≡ Some found.1 = within_take lines place found.0 found.1 found.3 in
    let short : length (take place lines) ≤ place = shorter_take lines place in
    let below : found.0 < length (take place lines) = found.2 in
    (found.0, omega arith, slice_get_within lines found.0 found.1 at, ap key_of at ∙ sym ((bytes_eq-Decides (key_at lines place) found.1.key).0 found.4))

-- the line of a key that stands once
pub found_line : (lines : List Line) (place : ℕ) (key : List ℕ) → IsEachOnce lines → place < length lines → key_at lines place ≡ key → line_at lines key ≡ slice_get lines place
unfolding line_at
found_line lines place key once in' same =
    let (line, at) = some_line lines place in' in
    let have : key ≡ line.key = sym same ∙ ap key_of at in
    let first : is_some (find (λ (l : Line). bytes_eq key l.key) (take place lines)) ≡ false = subst (λ (k : List ℕ). is_some (line_at (take place lines) k) ≡ false) same (once place in') in
    find_first (λ (l : Line). bytes_eq key l.key) lines place line at ((bytes_eq-Decides key line.key).1 have) first ∙ sym at

is_none : {X : Type 0} (o : Option X) → is_some o ≡ false → o ≡ None
is_none None h = refl
is_none (Some x) h = absurd cc

-- a key that stands on no line
pub no_line : (lines : List Line) (key : List ℕ) → ((q : ℕ) → q < length lines → key_at lines q ≡ key → ⊥) → line_at lines key ≡ None
unfolding line_at
no_line lines key h = is_none (line_at lines key) (elim (bool_cases (is_some (line_at lines key))) [
  | inl t ↦
      let found = find_place (λ (l : Line). bytes_eq key l.key) lines t in
      absurd (h found.0 found.2 (ap key_of found.3 ∙ sym ((bytes_eq-Decides key found.1.key).0 found.4)))
  | inr t ↦ t
])
