use Rattle.problem.proofs.WishLemmas.{wish_allows_nothing}
use Rattle.problem.proofs.laws.a_wish_allows_nothing.Goals as goal

pub returns : goal.returns
returns c p hclk at none e = wish_allows_nothing p hclk at none e
