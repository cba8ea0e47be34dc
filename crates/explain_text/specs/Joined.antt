-- Texts of like parts.
use Rattle.std.specs.Prelude.{ℕ, zero, suc, List, [], ◌++◌}

-- the parts of the numbers below n, one behind the other
unfoldable pub joined : ℕ → (ℕ → List ℕ) → List ℕ
joined zero part = []
joined (suc n) part = joined n part ++ part n
