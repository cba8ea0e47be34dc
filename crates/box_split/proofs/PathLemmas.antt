-- The boxes of paths.
use Rattle.std.proofs.Common.{◌≡◌, ℕ, zero, suc, ◌+◌, ◌*◌, ◌/◌, ◌%◌, ◌<◌, List, [], ◌∷◌, Bool, true, false, cond, leb, eqb, Option, Some, None, IfSome, refl, ap, ◌∙◌, subst, arith, inl, inr}
use Rattle.std.specs.Prelude.{option_and_then, is_some, not}
use Rattle.std.proofs.lemmas.Bool.Decides.{nat_tests}
use Rattle.choice_rank.specs.declared.variable.VarShape.{VarShape}
use Rattle.choice_rank.specs.Choices.{IsChoice, HasPositions}
use Rattle.box_split.specs.Boxes.{Run, whole, is_single, lows, IsBox}
use Rattle.box_split.specs.Paths.{lower, upper, half, box_within, box_of, split_from}
use Rattle.box_split.proofs.RunLemmas.{lt_tells, cut_inside, box_half, positive}

-- the box of a number from the box of its half
pub of_half : (vs : List VarShape) (path : ℕ) → 1 < path → box_of vs path ≡ option_and_then (half (path % 2)) (box_of vs (path / 2))
of_half vs path h =
    let e : path ≡ 2 * (path / 2) + path % 2 = omega arith in
    ap (box_of vs) e ∙ box_half vs (path / 2) (path % 2) (omega arith) (omega arith)

pub no_half : (vs : List VarShape) (path : ℕ) → 1 < path → box_of vs (path / 2) ≡ None → box_of vs path ≡ None
no_half vs path h e = of_half vs path h ∙ ap (option_and_then (half (path % 2))) e

pub single_half : (vs : List VarShape) (path : ℕ) (rs : List Run) → 1 < path → box_of vs (path / 2) ≡ Some rs → is_single rs ≡ true → box_of vs path ≡ None
single_half vs path rs h e s = of_half vs path h ∙ ap (option_and_then (half (path % 2))) e ∙ rw s refl

pub lower_half : (vs : List VarShape) (path : ℕ) (rs : List Run) → 1 < path → path % 2 ≡ 0 → box_of vs (path / 2) ≡ Some rs → is_single rs ≡ false → box_of vs path ≡ Some (lower rs)
lower_half vs path rs h b e s = of_half vs path h ∙ ap (option_and_then (half (path % 2))) e ∙ rw (s, b) refl

pub upper_half : (vs : List VarShape) (path : ℕ) (rs : List Run) → 1 < path → path % 2 ≡ 1 → box_of vs (path / 2) ≡ Some rs → is_single rs ≡ false → box_of vs path ≡ Some (upper rs)
upper_half vs path rs h b e s = of_half vs path h ∙ ap (option_and_then (half (path % 2))) e ∙ rw (s, b) refl

pub box_zero : (vs : List VarShape) → box_of vs 0 ≡ None
unfolding box_of
box_zero vs = refl

pub lows_choice : (vs : List VarShape) (rs : List Run) → IsBox vs rs → IsChoice vs (lows rs)
lows_choice [] [] h = h
lows_choice [] (r ∷ rs) h = absurd h
lows_choice (v ∷ vs) [] h = absurd h
lows_choice (v ∷ vs) (r ∷ rs) h = (omega (arith, h.0, h.1), lows_choice vs rs h.2)

-- ---- paths give boxes
pub whole_box : (vs : List VarShape) → HasPositions vs → IsBox vs (whole vs)
whole_box [] h = tt
whole_box (v ∷ vs) h = (omega arith, omega (arith, h.0), whole_box vs h.1)

pub lower_box : (vs : List VarShape) (rs : List Run) → IsBox vs rs → IsBox vs (lower rs)
lower_box [] [] h = h
lower_box [] (r ∷ rs) h = absurd h
lower_box (v ∷ vs) [] h = absurd h
lower_box (v ∷ vs) (r ∷ rs) h = elim (lt_tells r.low r.high) [
  | inl y ↦ let c = cut_inside r y.1 in rw y.0 (c.0, omega (arith, c.1, h.1), h.2)
  | inr n ↦ rw n.0 (h.0, h.1, lower_box vs rs h.2)
]

pub upper_box : (vs : List VarShape) (rs : List Run) → IsBox vs rs → IsBox vs (upper rs)
upper_box [] [] h = h
upper_box [] (r ∷ rs) h = absurd h
upper_box (v ∷ vs) [] h = absurd h
upper_box (v ∷ vs) (r ∷ rs) h = elim (lt_tells r.low r.high) [
  | inl y ↦ let c = cut_inside r y.1 in rw y.0 (omega (arith, c.1), h.1, h.2)
  | inr n ↦ rw n.0 (h.0, h.1, upper_box vs rs h.2)
]

half_cases : (vs : List VarShape) (s b : Bool) (rs : List Run) → IsBox vs rs → IfSome (cond s None (Some (cond b (lower rs) (upper rs)))) (IsBox vs)
half_cases vs true b rs h = tt
half_cases vs false true rs h = lower_box vs rs h
half_cases vs false false rs h = upper_box vs rs h

half_box : (vs : List VarShape) (bit : ℕ) (rs : List Run) → IsBox vs rs → IfSome (half bit rs) (IsBox vs)
half_box vs bit rs h = half_cases vs (is_single rs) (eqb bit 0) rs h

within_cases : (vs : List VarShape) (b : Bool) (bit : ℕ) (o : Option (List Run)) → HasPositions vs → IfSome o (IsBox vs) → IfSome (cond b (Some (whole vs)) (option_and_then (half bit) o)) (IsBox vs)
within_cases vs true bit o h k = whole_box vs h
within_cases vs false bit None h k = tt
within_cases vs false bit (Some rs) h k = half_box vs bit rs k

within_box : (n : ℕ) (vs : List VarShape) (p : ℕ) → HasPositions vs → IfSome (box_within n vs p) (IsBox vs)
within_box zero vs p h = tt
within_box (suc n) vs p h = within_cases vs (eqb p 1) (p % 2) (box_within n vs (p / 2)) h (within_box n vs (p / 2) h)

-- each path's box is a box
pub path_box : (vs : List VarShape) (p : ℕ) (rs : List Run) → HasPositions vs → box_of vs p ≡ Some rs → IsBox vs rs
unfolding box_of
path_box vs p rs h e = subst (λ (o : Option (List Run)). IfSome o (IsBox vs)) e (within_box p vs p h)

pub single_none : (k : ℕ) (rs : List Run) → is_single rs ≡ not (is_some (split_from k rs))
single_none k [] = refl
single_none k (r ∷ rs) = elim (lt_tells r.low r.high) [
  | inl y ↦ let t : leb r.high r.low ≡ false = grind (arith, nat_tests, y.1) in rw (y.0, t) refl
  | inr n ↦ let t : leb r.high r.low ≡ true = grind (arith, nat_tests, n.1) in rw (n.0, t) (single_none (k + 1) rs)
]

-- the halves of a path
pub lower_path : (vs : List VarShape) (path : ℕ) (rs : List Run) → box_of vs path ≡ Some rs → is_single rs ≡ false → box_of vs (2 * path) ≡ Some (lower rs)
lower_path vs path rs e s =
    let pos = positive vs path rs e in
    ap (box_of vs) (omega arith) ∙ box_half vs path 0 pos (omega arith) ∙ ap (option_and_then (half 0)) e ∙ rw s refl

pub upper_path : (vs : List VarShape) (path : ℕ) (rs : List Run) → box_of vs path ≡ Some rs → is_single rs ≡ false → box_of vs (2 * path + 1) ≡ Some (upper rs)
upper_path vs path rs e s =
    let pos = positive vs path rs e in
    box_half vs path 1 pos (omega arith) ∙ ap (option_and_then (half 1)) e ∙ rw s refl
