-- Internal: limits from their tests in order.
use Rattle.std.specs.Prelude.{ℕ, ◌+◌, Bool, true, List, [], ◌∷◌, Option, Some, None}
use Rattle.res_base.specs.Fraction.{Fraction, at_most, whole}
use Rattle.res_model.specs.Limits.{are_within, is_equal, mhz_48}

-- the tests with their numbers, where the first has this one
abbrev pub numbered : ℕ → List Bool → List (ℕ × Bool)
numbered k [] = []
numbered k (test ∷ tests) = (k, test) ∷ numbered (k + 1) tests

-- ---- nodes of the PLL, where they are there

abbrev pub within_where_there : ℕ × ℕ → Option Fraction → Bool
within_where_there bounds None = true
within_where_there bounds (Some x) = are_within bounds x

abbrev pub exactly_where_there : Option Fraction → Bool
exactly_where_there None = true
exactly_where_there (Some x) = is_equal x (whole mhz_48)

abbrev pub most_where_there : Option Fraction → Bool
most_where_there None = true
most_where_there (Some x) = at_most x (whole mhz_48)
