-- The clock values of a box, whose positions stand before those of the signals.
use Rattle.std.proofs.Common.{◌≡◌, ◌≤◌, ℕ, zero, suc, List, [], ◌∷◌, length, take, refl, sym, subst, ap, ◌∙◌, length-take, arith}
use Rattle.box_split.specs.declared.buffer.BoxBuf.{BoxBuf}
use Rattle.box_split.specs.BoxIn.{box_in, runs_in}
use Rattle.box_split.specs.Boxes.{IsBox, highs, lows}
use Rattle.choice_rank.specs.declared.variable.VarShape.{VarShape}
use Rattle.problem.specs.declared.parts.ProblemParts.{ProblemParts}
use Rattle.res_model.specs.declared.clock.ClockBox.{ClockBox}
use Rattle.clock_limits.specs.Ranges.{IsClockBox, refuting_limit}
use Rattle.box_rules.specs.Judged.{IsWhole, clock_box}
use Rattle.box_rules.proofs.ContestLemmas.{as_many_values}
use Rattle.box_rules.proofs.WholeLemmas.{is_clock_box, sizes}

lows_are : (k : ℕ) (vs : List VarShape) (lo hi : List ℕ) → k ≤ length vs → IsBox vs (runs_in (length vs) lo hi) → take k (lows (runs_in (length vs) lo hi)) ≡ take k lo
lows_are zero vs lo hi l b = refl
lows_are (suc k) [] lo hi l b = absurd (omega arith)
lows_are (suc k) (v ∷ vs) [] hi l b = absurd b
lows_are (suc k) (v ∷ vs) (x ∷ lo) [] l b = absurd b
lows_are (suc k) (v ∷ vs) (x ∷ lo) (y ∷ hi) l b = ap (λ (xs : List ℕ). x ∷ xs) (lows_are k vs lo hi (omega arith) b.2)

highs_are : (k : ℕ) (vs : List VarShape) (lo hi : List ℕ) → k ≤ length vs → IsBox vs (runs_in (length vs) lo hi) → take k (highs (runs_in (length vs) lo hi)) ≡ take k hi
highs_are zero vs lo hi l b = refl
highs_are (suc k) [] lo hi l b = absurd (omega arith)
highs_are (suc k) (v ∷ vs) [] hi l b = absurd b
highs_are (suc k) (v ∷ vs) (x ∷ lo) [] l b = absurd b
highs_are (suc k) (v ∷ vs) (x ∷ lo) (y ∷ hi) l b = ap (λ (xs : List ℕ). y ∷ xs) (highs_are k vs lo hi (omega arith) b.2)

abbrev pub clocks : List ℕ → List ℕ → ClockBox
clocks lo hi = record { lo = lo; hi = hi }

-- a whole problem has its clock variables
pub ten : (p : ProblemParts) → IsWhole p → 10 ≤ length p.shape
ten p w = omega (arith, as_many_values (take 10 p.shape) p.clock (sizes p w), length-take 10 p.shape, w.clock.ten)

module _ (p : ProblemParts) (w : IsWhole p) (b : BoxBuf) (is_box : IsBox p.shape (box_in p.shape b)) where
  clocks_are : clocks (take 10 b.lo) (take 10 b.hi) ≡ clock_box (box_in p.shape b)
  clocks_are =
      ap (λ (xs : List ℕ). clocks xs (take 10 b.hi)) (sym (lows_are 10 p.shape b.lo b.hi (ten p w) is_box))
      ∙ ap (λ (ys : List ℕ). clocks (take 10 (lows (box_in p.shape b))) ys) (sym (highs_are 10 p.shape b.lo b.hi (ten p w) is_box))

  -- the same of what was read from the problem
  module _ (q : ProblemParts) (values : List (List ℕ)) (lo hi : List ℕ) (e : q ≡ p) (f : values ≡ q.clock) (l : lo ≡ take 10 b.lo) (h : hi ≡ take 10 b.hi) where
    values_are : values ≡ p.clock
    values_are = f ∙ ap (λ (x : ProblemParts). x.clock) e

    read_are : clocks lo hi ≡ clock_box (box_in p.shape b)
    read_are = ap (λ (xs : List ℕ). clocks xs hi) l ∙ ap (λ (ys : List ℕ). clocks (take 10 b.lo) ys) h ∙ clocks_are

    pub clocks_read : IsClockBox values (clocks lo hi)
    clocks_read =
        subst (λ (vs : List (List ℕ)). IsClockBox vs (clocks lo hi)) (sym values_are)
        (subst (λ (x : ClockBox). IsClockBox p.clock x) (sym read_are) (is_clock_box p w (box_in p.shape b) is_box))

    pub limit_read : refuting_limit q.tables q.facts values (clocks lo hi) ≡ refuting_limit p.tables p.facts p.clock (clock_box (box_in p.shape b))
    limit_read =
        ap (λ (x : ProblemParts). refuting_limit x.tables x.facts values (clocks lo hi)) e
        ∙ ap (λ (vs : List (List ℕ)). refuting_limit p.tables p.facts vs (clocks lo hi)) values_are
        ∙ ap (λ (x : ClockBox). refuting_limit p.tables p.facts p.clock x) read_are
