-- Internal: what is known of the least choice of a problem before all choices are searched.
use Rattle.std.specs.Prelude.{◌≡◌, ℕ, Option, Some, None}
use Rattle.choice_rank.specs.Least.{IsAnswer, NoneLegal}
use Rattle.problem.specs.Meets.{meets}
use Rattle.problem.specs.Wishes.{bus_wish}
use Rattle.problem.specs.declared.parts.ProblemParts.{ProblemParts}
use Rattle.wish_search.specs.declared.early.Early.{Early}
use Rattle.wish_search.specs.declared.early.Early.TheVariants.{Unknown, NoChoice, Least}

-- nothing, exactly where the clock of no bus is wished; that no choice meets the limits; or the rank of the least that does
abbrev pub IsEarly : ProblemParts → Early → Type 0
IsEarly p Unknown = bus_wish p.facts ≡ None
IsEarly p NoChoice = NoneLegal p.shape (meets p)
IsEarly p (Least rank) = IsAnswer p.shape (meets p) (Some rank)

-- the answer as it is known early
abbrev pub early_of : Option ℕ → Early
early_of None = NoChoice
early_of (Some rank) = Least rank
