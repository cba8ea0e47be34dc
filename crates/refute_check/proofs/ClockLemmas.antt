-- The runs of the clock variables in a buffer.
use Rattle.std.proofs.Common.{◌≡◌, ℕ, zero, suc, ◌≤◌, List, [], ◌∷◌, length, take, refl, sym, ap, ◌∙◌, arith}
use Rattle.choice_rank.specs.declared.variable.VarShape.{VarShape}
use Rattle.box_split.specs.BoxIn.{runs_in}
use Rattle.box_split.specs.Boxes.{IsBox, highs, lows}
use Rattle.box_split.proofs.WalkLemmas.{lows_runs}
use Rattle.problem.specs.Problem.{HaveValues}
use Rattle.res_model.specs.declared.clock.ClockBox.{ClockBox}
use Rattle.box_rules.specs.Judged.{clock_box}

highs_runs : (n : ℕ) (lo hi : List ℕ) → n ≤ length lo → n ≤ length hi → highs (runs_in n lo hi) ≡ take n hi
highs_runs zero lo hi a b = refl
highs_runs (suc n) [] hi a b = absurd (omega arith)
highs_runs (suc n) (x ∷ lo) [] a b = absurd (omega arith)
highs_runs (suc n) (x ∷ lo) (y ∷ hi) a b = ap (λ ys. y ∷ ys) (highs_runs n lo hi (omega arith) (omega arith))

take_take : (k n : ℕ) (xs : List ℕ) → k ≤ n → take k (take n xs) ≡ take k xs
take_take zero n xs l = refl
take_take (suc k) zero xs l = absurd (omega arith)
take_take (suc k) (suc n) [] l = refl
take_take (suc k) (suc n) (x ∷ xs) l = ap (λ ys. x ∷ ys) (take_take k n xs (omega arith))

as_many : (vs : List VarShape) (values : List (List ℕ)) → HaveValues (take (length values) vs) values → length values ≤ length vs
as_many [] [] h = omega arith
as_many [] (xs ∷ xss) h = absurd h
as_many (v ∷ vs) [] h = omega arith
as_many (v ∷ vs) (xs ∷ xss) h = omega (arith, as_many vs xss h.1)

-- a buffer that holds a box is long enough
long_enough : (vs : List VarShape) (lo hi : List ℕ) → IsBox vs (runs_in (length vs) lo hi) → (length vs ≤ length lo) × (length vs ≤ length hi)
long_enough [] lo hi b = (omega arith, omega arith)
long_enough (v ∷ vs) [] hi b = absurd b
long_enough (v ∷ vs) (x ∷ lo) [] b = absurd b
long_enough (v ∷ vs) (x ∷ lo) (y ∷ hi) b = let rest = long_enough vs lo hi b.2 in (omega (arith, rest.0), omega (arith, rest.1))

pub clock_box_is : (vs : List VarShape) (values : List (List ℕ)) (lo hi : List ℕ) → length values ≡ 10 → HaveValues (take (length values) vs) values → IsBox vs (runs_in (length vs) lo hi) → ◌≡◌ {A = ClockBox} record { lo = take 10 lo; hi = take 10 hi } (clock_box (runs_in (length vs) lo hi))
clock_box_is vs values lo hi ten sizes is_box =
    let a = (long_enough vs lo hi is_box).0 in
    let b = (long_enough vs lo hi is_box).1 in
    let n : 10 ≤ length vs = omega (arith, ten, as_many vs values sizes) in
    let l : take 10 (lows (runs_in (length vs) lo hi)) ≡ take 10 lo = ap (take 10) (lows_runs (length vs) lo hi a b) ∙ take_take 10 (length vs) lo n in
    let h : take 10 (highs (runs_in (length vs) lo hi)) ≡ take 10 hi = ap (take 10) (highs_runs (length vs) lo hi a b) ∙ take_take 10 (length vs) hi n in
    sym (ap (λ (xs : List ℕ). record { lo = xs; hi = take 10 (highs (runs_in (length vs) lo hi)) }) l ∙ ap (λ (ys : List ℕ). record { lo = take 10 lo; hi = ys }) h)
