-- Internal: what a shape keeps beside its variables, so that ranks take no product of sizes anew.
use Rattle.std.specs.Prelude.{ℕ, List, [], ◌∷◌}
use Rattle.choice_rank.specs.declared.variable.VarShape.{VarShape}
use Rattle.choice_rank.specs.Choices.{choices_of}

-- for each variable, what one position more adds to the index
abbrev pub weights_of : List VarShape → List ℕ
weights_of [] = []
weights_of (v ∷ vs) = choices_of vs ∷ weights_of vs
