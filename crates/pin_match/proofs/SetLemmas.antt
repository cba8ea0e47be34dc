-- Reads of the variables' sets.
use Rattle.std.proofs.Common.{◌≡◌, ℕ, zero, suc, ◌<◌, List, [], ◌∷◌, length, get_or, Bool, refl, arith}
use Rattle.res_base.specs.declared.var_set.VarSet.{VarSet}
use Rattle.res_base.specs.VarSet.{in_set}
use Rattle.pin_match.specs.Sets.{fits_in}

-- what an element past the end reads as
abbrev pub nothing : VarSet
nothing = record { words = [] }

pub fits_at : (sets : List VarSet) (v : ℕ) → v < length sets → ◌≡◌ {A = ℕ → Bool} (fits_in sets v) (in_set (get_or sets v nothing))
unfolding fits_in
fits_at [] v h = absurd (omega arith)
fits_at (s ∷ ss) zero h = refl
fits_at (s ∷ ss) (suc v) h = fits_at ss v (omega arith)
