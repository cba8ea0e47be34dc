-- Lines of which each key stands once.
use Rattle.std.proofs.Common.{◌≡◌, ℕ, zero, suc, ◌+◌, ◌<◌, ◌≤◌, List, [], ◌∷◌, ◌++◌, length, take, true, false, Some, Result, Ok, Err, refl, sym, ap, ◌∙◌, subst, append_assoc, append-nil, get_or, arith}
use Rattle.std.specs.Prelude.{is_some, slice_get}
use Rattle.std.proofs.lemmas.Option.{slice_get_read}
use Rattle.ioc_text.specs.Lines.{line_at, line_of, with_line, ioc_after}
use Rattle.res_model.specs.Steps.{◌>>=◌}
use Rattle.ioc_text.specs.declared.fault.IocFault.{IocFault}
use Rattle.ioc_text.specs.declared.fault.IocFault.TheVariants.{TwiceKey}
use Rattle.ioc_text.specs.declared.line.Line.{Line}
use Rattle.ioc_text.specs.Index.{once_after, each_once, key_of, key_at, IsEachOnce, IsFirstRepeat}

abbrev Read : Type 0
Read = Result (List Line) IocFault

as_it_is : (r : Read) → (r >>= (λ found. Ok found)) ≡ r
as_it_is (Ok found) = refl
as_it_is (Err e) = refl

pushed_after : (r : Read) (xs : List Line) (line : Line)
    → ((found : List Line) → once_after found (xs ++ line ∷ []) ≡ (once_after found xs >>= (λ f. with_line f (Some line))))
    → (r >>= (λ f. once_after f (xs ++ line ∷ []))) ≡ ((r >>= (λ f. once_after f xs)) >>= (λ f. with_line f (Some line)))
pushed_after (Ok found) xs line h = h found
pushed_after (Err e) xs line h = refl

-- one line more at the end
once_pushed : (before xs : List Line) (line : Line) → once_after before (xs ++ line ∷ []) ≡ (once_after before xs >>= (λ f. with_line f (Some line)))
once_pushed before [] line = as_it_is (with_line before (Some line))
once_pushed before (x ∷ xs) line = pushed_after (with_line before (Some x)) xs line (λ found. once_pushed found xs line)

module _ (n : ℕ) (bytes : List ℕ) (more : List (List ℕ)) where
  named_after : (line : Line) → line_of n bytes ≡ Ok (Some line) → (r : Read)
      → ((r >>= (λ f. with_line f (Some line))) >>= (λ f. ioc_after f (n + 1) more)) ≡ (r >>= (λ f. ioc_after f n (bytes ∷ more)))
  named_after line e (Ok found) = rw e refl
  named_after line e (Err fault) = refl

  -- a line with a named key is read
  pub named : (lines : List Line) (line : Line) → line_of n bytes ≡ Ok (Some line)
      → (each_once (lines ++ line ∷ []) >>= (λ f. ioc_after f (n + 1) more)) ≡ (each_once lines >>= (λ f. ioc_after f n (bytes ∷ more)))
  named lines line e = ap (λ (r : Read). r >>= (λ f. ioc_after f (n + 1) more)) (once_pushed [] lines line) ∙ named_after line e (each_once lines)

-- no line's key stands on those before it
once_by : (before lines : List Line) → ((k : ℕ) → k < length lines → is_some (line_at (before ++ take k lines) (key_at lines k)) ≡ false) → once_after before lines ≡ Ok (before ++ lines)
unfolding with_line
once_by before [] h = ap Ok (sym (append-nil before))
once_by before (line ∷ more) h =
    let here : is_some (line_at before line.key) ≡ false = subst (λ (b : List Line). is_some (line_at b line.key) ≡ false) (append-nil before) (h 0 (omega arith)) in
    let rest : once_after (before ++ line ∷ []) more ≡ Ok ((before ++ line ∷ []) ++ more) =
    once_by (before ++ line ∷ []) more (λ k lt. subst (λ (b : List Line). is_some (line_at b (key_at more k)) ≡ false) (sym (append_assoc before (line ∷ []) (take k more))) (h (suc k) (omega arith))) in
    rw here (rest ∙ ap Ok (append_assoc before (line ∷ []) more))

all_once : (lines : List Line) → ((k : ℕ) → k < length lines → is_some (line_at (take k lines) (key_at lines k)) ≡ false) → each_once lines ≡ Ok lines
all_once lines h = once_by [] lines h

-- the first line whose key stands on one before it
twice_by : (before lines : List Line) (n : ℕ) (line : Line) → slice_get lines n ≡ Some line
    → ((k : ℕ) → k < n → is_some (line_at (before ++ take k lines) (key_at lines k)) ≡ false)
    → is_some (line_at (before ++ take n lines) line.key) ≡ true → once_after before lines ≡ Err (TwiceKey line.number)
unfolding with_line
twice_by before [] n line e h t = absurd cc
twice_by before (x ∷ xs) zero line e h t =
    let same : x ≡ line = cc in
    let here : is_some (line_at before line.key) ≡ true = subst (λ (b : List Line). is_some (line_at b line.key) ≡ true) (append-nil before) t in
    rw (same, here) refl
twice_by before (x ∷ xs) (suc n) line e h t =
    let here : is_some (line_at before x.key) ≡ false = subst (λ (b : List Line). is_some (line_at b x.key) ≡ false) (append-nil before) (h 0 (omega arith)) in
    let rest : once_after (before ++ x ∷ []) xs ≡ Err (TwiceKey line.number) =
    twice_by (before ++ x ∷ []) xs n line e (λ k lt. subst (λ (b : List Line). is_some (line_at b (key_at xs k)) ≡ false) (sym (append_assoc before (x ∷ []) (take k xs))) (h (suc k) (omega arith)))
    (subst (λ (b : List Line). is_some (line_at b line.key) ≡ true) (sym (append_assoc before (x ∷ []) (take n xs))) t) in
    rw here rest

first_twice : (lines : List Line) (n : ℕ) (line : Line) → slice_get lines n ≡ Some line
    → ((k : ℕ) → k < n → is_some (line_at (take k lines) (key_at lines k)) ≡ false)
    → is_some (line_at (take n lines) line.key) ≡ true → each_once lines ≡ Err (TwiceKey line.number)
first_twice lines n line e h t = twice_by [] lines n line e h t

-- the first repeat is past the end
pub none_stands : (lines : List Line) (first : ℕ) → length lines ≤ first → IsFirstRepeat lines first → IsEachOnce lines
none_stands lines first past h = λ place lt. h.least place (omega arith) lt

pub none_told : (lines : List Line) (first : ℕ) → length lines ≤ first → IsFirstRepeat lines first → each_once lines ≡ Ok lines
none_told lines first past h = all_once lines (none_stands lines first past h)

-- the first repeat is a line
pub one_told : (lines : List Line) (first : ℕ) (line : Line) → first < length lines → line ≡ get_or lines first line → IsFirstRepeat lines first → each_once lines ≡ Err (TwiceKey line.number)
one_told lines first line lt e h =
    let at : slice_get lines first ≡ Some line = slice_get_read lines (length lines) first line refl lt e in
    first_twice lines first line at (λ k below. h.least k below (omega arith)) (subst (λ (key : List ℕ). is_some (line_at (take first lines) key) ≡ true) (ap key_of at) (h.stands lt))
