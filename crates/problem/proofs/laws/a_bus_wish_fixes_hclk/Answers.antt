use Rattle.problem.proofs.WishLemmas.{bus_wish_fixes}
use Rattle.problem.proofs.laws.a_bus_wish_fixes_hclk.Goals as goal

pub returns : goal.returns
returns c p wish variable at is e = bus_wish_fixes p wish variable at is e
