-- Internal: the least rank at some values of HCLK.
use Rattle.std.specs.Prelude.{◌≡◌, ℕ, ◌<◌, ◌≤◌, List, Option, Some, None, true, min, slice_index, IfSome}
use Rattle.box_rules.specs.Judged.{whole_meaning}
use Rattle.choice_rank.specs.Choices.{IsChoice, rank_of}
use Rattle.choice_rank.specs.Least.{IsAnswer}
use Rattle.problem.specs.Meets.{meets}
use Rattle.problem.specs.Wishes.{with_hclk}
use Rattle.problem.specs.declared.parts.ProblemParts.{ProblemParts}
use Rattle.search_api.specs.Accounts.{IsLegalRank}
use Rattle.wish_search.specs.declared.hertz.Tried.{Tried}

-- the lower of two ranks, or the only one
abbrev pub lower : Option ℕ → Option ℕ → Option ℕ
lower None other = other
lower (Some one) None = Some one
lower (Some one) (Some other) = Some (min one other)

-- there is a best rank, and it is at most this one
abbrev pub IsReached : Option ℕ → ℕ → Type 0
IsReached None rank = ⊥
IsReached (Some best) rank = best ≤ rank

-- no choice at this value of HCLK that meets the limits has a rank below the best
abbrev pub IsBelow : ProblemParts → ℕ → Option ℕ → Type 0
IsBelow p hclk best = (at : List ℕ) → IsChoice p.shape at → meets (with_hclk (Some hclk) p) at ≡ true → IsReached best (rank_of p.shape at)

-- the best rank is that of a choice that meets the limits, and none at the first so many values of HCLK is below it
pub record IsLowestOf (p : ProblemParts) (count : ℕ) (hertz : List ℕ) (best : Option ℕ) : Type 0 where
  pub legal : IfSome best (IsLegalRank (whole_meaning p))
  pub below : (k : ℕ) → k < count → IsBelow p (slice_index hertz k) best

-- one more value of HCLK was tried
pub record IsTried (hclk : ℕ) (before after : Tried) : Type 0 where
  pub same : after.problem ≡ before.problem
  pub found : Option ℕ
  pub answer : IsAnswer before.problem.shape (meets (with_hclk (Some hclk) before.problem)) found
  pub best : after.best ≡ lower before.best found
