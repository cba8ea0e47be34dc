-- Boxes whose signals have the same positions.
use Rattle.std.proofs.Common.{◌≡◌, ◌≤◌, ℕ, zero, suc, ◌+◌, ◌-◌, List, [], ◌∷◌, length, take, drop, Option, refl, sym, subst, ap, ◌∙◌, arith}
use Rattle.box_split.specs.declared.buffer.BoxBuf.{BoxBuf}
use Rattle.box_split.specs.BoxIn.{box_in, runs_in}
use Rattle.box_split.specs.Boxes.{Run}
use Rattle.problem.specs.declared.parts.ProblemParts.{ProblemParts}
use Rattle.search_api.specs.declared.verdict.Class.TheVariants.{Pins, Exti}
use Rattle.search_api.specs.declared.verdict.Reason.{Reason}
use Rattle.box_rules.specs.Contest.{contestants, hall_in}
use Rattle.box_rules.specs.Judged.{IsWhole}
use Rattle.box_judge.specs.Fits.{hall_reason, reason_from}
use Rattle.box_judge.proofs.LimitLemmas.{ten}

runs_take : (n : ℕ) (lo hi : List ℕ) → runs_in n (take n lo) (take n hi) ≡ runs_in n lo hi
runs_take zero lo hi = refl
runs_take (suc n) [] hi = refl
runs_take (suc n) (l ∷ lo) [] = refl
runs_take (suc n) (l ∷ lo) (h ∷ hi) = ap (λ (rs : List Run). record { low = l; high = h } ∷ rs) (runs_take n lo hi)

-- where the positions of the last m of n variables are the same, so are their runs
pub same_runs :
    (k m n : ℕ) (lo hi los his : List ℕ) → k + m ≡ n → n ≤ length lo → n ≤ length hi → n ≤ length los → n ≤ length his
    → take m (drop k lo) ≡ take m (drop k los) → take m (drop k hi) ≡ take m (drop k his) → drop k (runs_in n lo hi) ≡ drop k (runs_in n los his)
same_runs zero m n lo hi los his e p q r s f g =
    let many : m ≡ n = omega (arith, e) in
    subst (λ (j : ℕ). runs_in j lo hi ≡ runs_in j los his) many
    (sym (runs_take m lo hi)
    ∙ ap (λ (xs : List ℕ). runs_in m xs (take m hi)) f
    ∙ ap (λ (xs : List ℕ). runs_in m (take m los) xs) g
    ∙ runs_take m los his)
same_runs (suc k) m zero lo hi los his e p q r s f g = absurd (omega arith)
same_runs (suc k) m (suc n) [] hi los his e p q r s f g = absurd (omega arith)
same_runs (suc k) m (suc n) (l ∷ lo) [] los his e p q r s f g = absurd (omega arith)
same_runs (suc k) m (suc n) (l ∷ lo) (h ∷ hi) [] his e p q r s f g = absurd (omega arith)
same_runs (suc k) m (suc n) (l ∷ lo) (h ∷ hi) (x ∷ los) [] e p q r s f g = absurd (omega arith)
same_runs (suc k) m (suc n) (l ∷ lo) (h ∷ hi) (x ∷ los) (y ∷ his) e p q r s f g = same_runs k m n lo hi los his (omega arith) (omega arith) (omega arith) (omega arith) (omega arith) f g

same_reason : (p : ProblemParts) (box other : List Run) → drop p.first box ≡ drop p.first other → hall_reason p box ≡ hall_reason p other
same_reason p box other e =
    ap (λ (rs : List Run). reason_from (hall_in p.tables Pins (contestants Pins p.first p.uses rs)) (hall_in p.tables Exti (contestants Exti p.first p.uses rs))) e

-- what was kept for a box is right for one with the same signals
pub kept_holds : (p : ProblemParts) (a b : BoxBuf) (refuting : Option Reason) → refuting ≡ hall_reason p (box_in p.shape a) → drop p.first (box_in p.shape a) ≡ drop p.first (box_in p.shape b) → refuting ≡ hall_reason p (box_in p.shape b)
kept_holds p a b refuting is e = is ∙ same_reason p (box_in p.shape a) (box_in p.shape b) e

module _ (p : ProblemParts) (w : IsWhole p) (a b : BoxBuf) where
  -- where the signals have the same positions in two boxes, they have the same runs
  pub same_signals : (end : ℕ) → end ≡ length p.shape → length a.lo ≡ 170 → length a.hi ≡ 170 → length b.lo ≡ 170 → length b.hi ≡ 170
      → take (end - 10) (drop 10 a.lo) ≡ take (end - 10) (drop 10 b.lo) → take (end - 10) (drop 10 a.hi) ≡ take (end - 10) (drop 10 b.hi) → drop p.first (box_in p.shape a) ≡ drop p.first (box_in p.shape b)
  same_signals end e q r s t f g =
      let many : 10 + (end - 10) ≡ length p.shape = omega (arith, e, ten p w) in
      let small = w.ready.shape.few in
      subst (λ (k : ℕ). drop k (box_in p.shape a) ≡ drop k (box_in p.shape b)) (sym w.first)
      (same_runs 10 (end - 10) (length p.shape) a.lo a.hi b.lo b.hi many (omega (arith, q, small)) (omega (arith, r, small)) (omega (arith, s, small)) (omega (arith, t, small)) f g)
