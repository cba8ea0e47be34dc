-- The rank of a legal choice is below the word that stands for none.
use Rattle.std.proofs.Common.{ℕ, ◌<◌, ◌^◌, subst}
use Rattle.choice_rank.proofs.ChoiceLemmas.{rank_below}
use Rattle.search_api.specs.Meaning.{Meaning, IsLawful}
use Rattle.search_api.specs.Accounts.{IsLegalRank}

pub stands_for_a_rank : (m : Meaning) → IsLawful m → (rank : ℕ) → IsLegalRank m rank → rank < 2 ^ 63
stands_for_a_rank m lawful rank is = subst (λ r. r < 2 ^ 63) is.rank_is (rank_below m.shape is.choice lawful.is_shape.narrow is.is_choice)
