-- Lines that are left out.
use Rattle.std.proofs.Common.{◌≡◌, ℕ, zero, suc, ◌+◌, ◌<◌, List, [], ◌∷◌, ◌++◌, length, drop, map, get_or, Bool, true, false, not, eqb, cond, Option, Some, None, filter, refl, sym, ap, ◌∙◌, subst, inl, inr, arith, add-one}
use Rattle.std.proofs.Math.Seq.{drop-cons}
use Rattle.std.specs.Borrow.{Bor}
use Rattle.std.specs.Prelude.{find, is_some, slice_get}
use Rattle.std.specs.Str.{bytes_eq}
use Rattle.std.proofs.lemmas.Option.{slice_get_within}
use Rattle.std.proofs.lemmas.Slice.Eq.{bytes_eq-Decides}
use Rattle.res_base.proofs.SumLemmas.{bool_cases}
use Rattle.ioc_text.specs.Index.{IsEachOnce, key_at, key_of, stood}
use Rattle.ioc_text.specs.Lines.{line_at}
use Rattle.ioc_text.specs.Outs.{is_out, kept, unless_out}
use Rattle.ioc_text.specs.Without.{without}
use Rattle.ioc_text.specs.declared.line.Line.{Line}
use Rattle.ioc_text.proofs.Places.{stood_by}

-- where no line is left out, all are kept
pub all_kept : (lines : List Line) → kept [] lines ≡ lines
all_kept [] = refl
all_kept (line ∷ lines) = ap (λ (ls : List Line). line ∷ ls) (all_kept lines)

-- ---- one number more
one_more : (outs : List ℕ) (n : ℕ) (line : Line) → is_out (outs ++ n ∷ []) line ≡ cond (is_out outs line) true (eqb line.number n)
one_more [] n line = elim (bool_cases (eqb line.number n)) [ inl t ↦ rw t refl | inr t ↦ rw t refl ]
one_more (o ∷ outs) n line = elim (bool_cases (eqb line.number o)) [ inl t ↦ rw t refl | inr t ↦ rw t (one_more outs n line) ]

pub left_more : (outs : List ℕ) (n : ℕ) (lines : List Line) → kept (outs ++ n ∷ []) lines ≡ without n (kept outs lines)
left_more outs n [] = refl
left_more outs n (line ∷ lines) = elim (bool_cases (is_out outs line)) [
  | inl t ↦ rw (one_more outs n line, t) (left_more outs n lines)
  | inr t ↦ elim (bool_cases (eqb line.number n)) [
    | inl u ↦ rw (one_more outs n line, t, u) (left_more outs n lines)
    | inr u ↦ rw (one_more outs n line, t, u) (ap (λ (ls : List Line). line ∷ ls) (left_more outs n lines))
  ]
]

-- ---- the line of a key among those that are kept
module _ (p : Line → Bool) (outs : List ℕ) where
  none_kept : (lines : List Line) → ((q : ℕ) (line : Line) → slice_get lines q ≡ Some line → p line ≡ true → ⊥) → find p (kept outs lines) ≡ None
  none_kept [] h = refl
  none_kept (line ∷ lines) h = elim (bool_cases (p line)) [
    | inl t ↦ absurd (h 0 line refl t)
    | inr t ↦ elim (bool_cases (is_out outs line)) [
      | inl u ↦ rw u (none_kept lines (λ q. h (suc q)))
      | inr u ↦ rw (u, t) (none_kept lines (λ q. h (suc q)))
    ]
  ]

  -- no two lines are such
  abbrev Once : List Line → Type 0
  Once lines = (q r : ℕ) (a b : Line) → q < r → slice_get lines q ≡ Some a → slice_get lines r ≡ Some b → p a ≡ true → p b ≡ true → ⊥

  found_kept : (lines : List Line) → Once lines → find p (kept outs lines) ≡ unless_out outs (find p lines)
  found_kept [] once = refl
  found_kept (line ∷ lines) once = elim (bool_cases (p line)) [
    | inl t ↦ elim (bool_cases (is_out outs line)) [
      | inl u ↦ rw (t, u) (none_kept lines (λ r b e s. once 0 (suc r) line b (omega arith) refl e t s))
      | inr u ↦ rw (t, u, t) refl
    ]
    | inr t ↦
        let more = found_kept lines (λ q r a b lt. once (suc q) (suc r) a b (omega arith)) in
        elim (bool_cases (is_out outs line)) [ inl u ↦ rw (t, u) more | inr u ↦ rw (t, u, t) more ]
  ]

pub line_kept : (outs : List ℕ) (lines : List Line) (key : List ℕ) → IsEachOnce lines → line_at (kept outs lines) key ≡ unless_out outs (line_at lines key)
unfolding line_at
line_kept outs lines key each = found_kept (λ (l : Line). bytes_eq key l.key) outs lines (λ q r a b lt at_q at_r is_a is_b.
    let in_q : q < length lines = slice_get_within lines q a at_q in
    let in_r : r < length lines = slice_get_within lines r b at_r in
    let same : key_at lines q ≡ key_at lines r =
    ap key_of at_q ∙ sym ((bytes_eq-Decides key a.key).0 is_a) ∙ (bytes_eq-Decides key b.key).0 is_b ∙ sym (ap key_of at_r) in
    let before : stood lines r ≡ true = stood_by lines q r lt in_q same in
    let once : stood lines r ≡ false = each r in_r in
    absurd cc)

-- ---- one line after another
module _ (outs : List ℕ) (lines : List Line) (i : ℕ) (line : Line) (lt : i < length lines) (is : line ≡ get_or lines i line) where
  first_and_more : drop i lines ≡ line ∷ drop (i + 1) lines
  first_and_more = rw add-one (drop-cons lines i line lt ∙ ap (λ (l : Line). l ∷ drop (suc i) lines) (sym is))

  pub passed : is_out outs line ≡ true → kept outs (drop (i + 1) lines) ≡ kept outs (drop i lines)
  passed t = rw first_and_more (rw t refl)

  pub taken : is_out outs line ≡ false → line ∷ kept outs (drop (i + 1) lines) ≡ kept outs (drop i lines)
  taken t = rw first_and_more (rw t refl)

pub all_of : (outs : List ℕ) (lines read : List Line) → outs ≡ [] → read ≡ lines → kept outs read ≡ lines
all_of outs lines read none e = ap (λ (o : List ℕ). kept o read) none ∙ all_kept read ∙ e

-- what is found of those that are kept
pub found_by : (outs : List ℕ) (lines ioc : List Line) (key : List ℕ) → IsEachOnce lines → ioc ≡ kept outs lines → (found result : Option Line) → found ≡ line_at lines key → result ≡ unless_out outs found
    → result ≡ line_at ioc key
found_by outs lines ioc key each view found result is out =
    out ∙ ap (unless_out outs) is ∙ sym (line_kept outs lines key each) ∙ ap (λ (ls : List Line). line_at ls key) (sym view)

-- what is left of those that are kept
pub left_by : (outs more : List ℕ) (lines read ioc : List Line) (n : ℕ) → ioc ≡ kept outs lines → more ≡ outs ++ n ∷ [] → read ≡ lines → kept more read ≡ without n ioc
left_by outs more lines read ioc n view put same =
    ap (λ (ls : List Line). kept more ls) same ∙ ap (λ (o : List ℕ). kept o lines) put ∙ left_more outs n lines ∙ ap (without n) (sym view)
