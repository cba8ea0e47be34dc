-- Internal: a test among several.
use Rattle.std.specs.Prelude.{ℕ, zero, suc, Bool, true, List, [], ◌∷◌}

-- a value passes the test at this place
abbrev pub passes : List (ℕ → Bool) → ℕ → ℕ → Bool
passes [] place v = true
passes (test ∷ tests) zero v = test v
passes (test ∷ tests) (suc place) v = passes tests place v
