-- The box of all choices has all positions of the clock variables.
use Rattle.std.proofs.Common.{◌≡◌, ℕ, zero, suc, ◌+◌, ◌<◌, List, [], ◌∷◌, length, take, get_or, refl, arith}
use Rattle.res_base.specs.Lists.{Each}
use Rattle.box_rules.proofs.WholeLemmas.{sizes}
use Rattle.box_rules.specs.Judged.{IsWhole, clock_box}
use Rattle.box_spans.proofs.EveryLemmas.{whole_box}
use Rattle.box_spans.specs.Every.{every}
use Rattle.box_split.specs.Boxes.{highs, lows, whole}
use Rattle.choice_rank.specs.declared.variable.VarShape.{VarShape}
use Rattle.clock_limits.specs.Ranges.{allowed}
use Rattle.problem.specs.Problem.{HaveValues}
use Rattle.problem.specs.declared.parts.ProblemParts.{ProblemParts}

lowest : (n : ℕ) (vs : List VarShape) (k : ℕ) → get_or (take n (lows (whole vs))) k 0 ≡ 0
lowest zero vs k = refl
lowest (suc n) [] k = refl
lowest (suc n) (v ∷ vs) zero = refl
lowest (suc n) (v ∷ vs) (suc k) = lowest n vs k

none_of : (vss : List (List ℕ)) (k : ℕ) {A : Type 0} → HaveValues [] vss → k < length vss → A
none_of [] k h l = absurd (omega (arith, l))
none_of (xs ∷ xss) k h l = absurd h

highest : (n : ℕ) (vs : List VarShape) (vss : List (List ℕ)) (k : ℕ) → HaveValues (take n vs) vss → Each (λ (v : VarShape). 0 < v.size) vs → k < length vss
    → get_or (take n (highs (whole vs))) k 0 + 1 ≡ length (get_or vss k [])
highest zero vs vss k h p l = none_of vss k h l
highest (suc n) [] vss k h p l = none_of vss k h l
highest (suc n) (v ∷ vs) [] k h p l = absurd h
highest (suc n) (v ∷ vs) (xs ∷ xss) zero h p l = omega (arith, h.0, p.0)
highest (suc n) (v ∷ vs) (xs ∷ xss) (suc k) h p l = highest n vs xss k h.1 p.1 (omega (arith, l))

pub every_value : (p : ProblemParts) → IsWhole p → allowed p.clock (clock_box (whole p.shape)) ≡ every p.clock
every_value p w =
    whole_box p.clock (clock_box (whole p.shape))
    record {
      low = λ k l. lowest 10 p.shape k;
      high = λ k l. highest 10 p.shape p.clock k (sizes p w) w.ready.shape.positions (omega (arith, l, w.clock.ten));
    }
