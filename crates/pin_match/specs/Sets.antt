-- The sets of resources of the variables.
use Rattle.std.specs.Prelude.{ℕ, zero, suc, Bool, false, List, [], ◌∷◌}
use Rattle.res_base.specs.declared.var_set.VarSet.{VarSet}
use Rattle.res_base.specs.VarSet.{in_set}

-- whether a resource is in the set of a variable
unfoldable pub fits_in : List VarSet → ℕ → ℕ → Bool
fits_in [] v = λ r. false
fits_in (s ∷ ss) zero = in_set s
fits_in (s ∷ ss) (suc v) = fits_in ss v
