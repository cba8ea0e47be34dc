-- Choices of four positions, and the boxes that buffers hold.
use Rattle.std.proofs.Common.{◌≡◌, ℕ, zero, suc, ◌+◌, ◌-◌, ◌*◌, ◌/◌, ◌%◌, ◌<◌, ◌≤◌, List, [], ◌∷◌, length, get_or, take, refl, sym, ap, subst, ◌∙◌, arith}
use Rattle.choice_rank.specs.declared.variable.VarShape.{VarShape}
use Rattle.choice_rank.specs.Choices.{IsChoice}
use Rattle.box_split.specs.BoxIn.{runs_in}
use Rattle.box_split.specs.Boxes.{Run, IsBox, lows, highs}
use Rattle.box_split.proofs.PathLemmas.{lows_choice}
use Rattle.box_split.proofs.WalkLemmas.{lows_runs}
use Rattle.can_timing.specs.declared.timing.Timing.{Timing}
use Rattle.can_timing.specs.Timings.{IsTiming, can_shape, timing_of}

-- ---- four positions
pub record AreFour (at : List ℕ) : Type 0 where
  pub four : length at ≡ 4
  pub upper : get_or at 0 0 < 2
  pub lower : get_or at 1 0 < 512
  pub first : get_or at 2 0 < 16
  pub second : get_or at 3 0 < 8
  pub is : at ≡ get_or at 0 0 ∷ get_or at 1 0 ∷ get_or at 2 0 ∷ get_or at 3 0 ∷ []

pub are_four : (at : List ℕ) → IsChoice can_shape at → AreFour at
are_four [] i = absurd i
are_four (x ∷ []) i = absurd i.1
are_four (x ∷ y ∷ []) i = absurd i.1.1
are_four (x ∷ y ∷ z ∷ []) i = absurd i.1.1.1
are_four (x ∷ y ∷ z ∷ k ∷ j ∷ rest) i = absurd i.1.1.1.1
are_four (x ∷ y ∷ z ∷ k ∷ []) i = record { four = refl; upper = i.0; lower = i.1.0; first = i.1.1.0; second = i.1.1.1.0; is = refl }

pub in_ranges : (at : List ℕ) → IsChoice can_shape at → IsTiming (timing_of at)
in_ranges [] i = absurd i
in_ranges (x ∷ []) i = absurd i.1
in_ranges (x ∷ y ∷ []) i = absurd i.1.1
in_ranges (x ∷ y ∷ z ∷ []) i = absurd i.1.1.1
in_ranges (x ∷ y ∷ z ∷ k ∷ j ∷ rest) i = absurd i.1.1.1.1
in_ranges (x ∷ y ∷ z ∷ k ∷ []) i = record {
  brp = (omega arith, omega (arith, i.0, i.1.0));
  bs1 = (omega arith, omega (arith, i.1.1.0));
  bs2 = (omega arith, omega (arith, i.1.1.1.0));
}

-- ---- boxes
highs_runs : (n : ℕ) (lo hi : List ℕ) → n ≤ length lo → n ≤ length hi → highs (runs_in n lo hi) ≡ take n hi
highs_runs zero lo hi a b = refl
highs_runs (suc n) [] hi a b = absurd (omega arith)
highs_runs (suc n) (x ∷ lo) [] a b = absurd (omega arith)
highs_runs (suc n) (x ∷ lo) (y ∷ hi) a b = ap (λ ys. y ∷ ys) (highs_runs n lo hi (omega arith) (omega arith))

highs_choice : (vars : List VarShape) (box : List Run) → IsBox vars box → IsChoice vars (highs box)
highs_choice [] [] b = tt
highs_choice [] (r ∷ rs) b = absurd b
highs_choice (v ∷ vars) [] b = absurd b
highs_choice (v ∷ vars) (r ∷ rs) b = (b.1, highs_choice vars rs b.2)

module _ (lo hi : List ℕ) (low : length lo ≡ 170) (high : length hi ≡ 170) (box : IsBox can_shape (runs_in 4 lo hi)) where
  pub lows_are : take 4 lo ≡ lows (runs_in 4 lo hi)
  lows_are = sym (lows_runs 4 lo hi (omega (arith, low)) (omega (arith, high)))

  pub highs_are : take 4 hi ≡ highs (runs_in 4 lo hi)
  highs_are = sym (highs_runs 4 lo hi (omega (arith, low)) (omega (arith, high)))

  pub lows_choose : IsChoice can_shape (take 4 lo)
  lows_choose = subst (IsChoice can_shape) (sym lows_are) (lows_choice can_shape (runs_in 4 lo hi) box)

  pub highs_choose : IsChoice can_shape (take 4 hi)
  highs_choose = subst (IsChoice can_shape) (sym highs_are) (highs_choice can_shape (runs_in 4 lo hi) box)

-- ---- the choice of a timing
has_positions : (p a b : ℕ) → (1 ≤ p) × (p ≤ 1024) → (1 ≤ a) × (a ≤ 16) → (1 ≤ b) × (b ≤ 8)
    → (choice : List ℕ) × IsChoice can_shape choice × ◌≡◌ {A = Timing} (timing_of choice) record { brp = p; bs1 = a; bs2 = b }
has_positions p a b h i j =
    let upper : ℕ = (p - 1) / 512 in
    let lower : ℕ = (p - 1) % 512 in
    let prescaler : 512 * upper + lower + 1 ≡ p = omega (arith, h.0) in
    let first : a - 1 + 1 ≡ a = omega (arith, i.0) in
    let second : b - 1 + 1 ≡ b = omega (arith, j.0) in (
      upper ∷ lower ∷ (a - 1) ∷ (b - 1) ∷ [],
      (omega (arith, h.1), (omega arith, (omega (arith, i.1, i.0), (omega (arith, j.1, j.0), tt)))),
      ap (λ n. record { brp = n; bs1 = a - 1 + 1; bs2 = b - 1 + 1 }) prescaler
          ∙ ap (λ n. record { brp = p; bs1 = n; bs2 = b - 1 + 1 }) first ∙ ap (λ n. record { brp = p; bs1 = a; bs2 = n }) second,
    )

pub has_choice : (t : Timing) → IsTiming t → (choice : List ℕ) × IsChoice can_shape choice × (timing_of choice ≡ t)
has_choice t r = has_positions t.brp t.bs1 t.bs2 r.brp r.bs1 r.bs2
