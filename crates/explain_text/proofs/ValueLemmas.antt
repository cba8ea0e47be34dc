-- Each clock variable of a whole problem has a value.
use Rattle.std.proofs.Common.{◌≢◌, ℕ, zero, suc, ◌<◌, List, [], ◌∷◌, length, take, get_or, arith}
use Rattle.res_base.specs.Lists.{Each}
use Rattle.box_spans.specs.Every.{AreFilled}
use Rattle.choice_rank.specs.declared.variable.VarShape.{VarShape}
use Rattle.clock_limits.proofs.SpreadLemmas.{each_take}
use Rattle.problem.specs.Problem.{HaveValues, IsProblem}
use Rattle.problem.specs.declared.parts.ProblemParts.{ProblemParts}

have_some : (vs : List VarShape) (vss : List (List ℕ)) (k : ℕ) → HaveValues vs vss → Each (λ (v : VarShape). 0 < v.size) vs → k < length vss → 0 < length (get_or vss k [])
have_some [] [] k h p l = absurd (omega (arith, l))
have_some [] (x ∷ xs) k h p l = absurd h
have_some (v ∷ vs) [] k h p l = absurd h
have_some (v ∷ vs) (x ∷ xs) zero h p l = omega (arith, h.0, p.0)
have_some (v ∷ vs) (x ∷ xs) (suc k) h p l = have_some vs xs k h.1 p.1 (omega (arith, l))

pub are_filled : (p : ProblemParts) → IsProblem p → p.first ≢ 0 → AreFilled p.clock
are_filled p is some =
    let clock = is.clock some in
    record {
      ten = clock.ten;
      some_value = λ k l. have_some (take p.first p.shape) p.clock k is.clock_sizes (each_take (λ (v : VarShape). 0 < v.size) p.first p.shape is.is_shape.positions) (omega (arith, l, clock.ten));
    }
