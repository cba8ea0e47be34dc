-- Calls that are numbered from 0, of which some are to fail.
use Rattle.std.specs.Prelude.{ℕ, ◌+◌, ◌-◌, ◌^◌, min, Bool, ◌==◌, List}
use Rattle.std.specs.List.{list_any}

-- one more, up to the counter's last value
abbrev pub one_more : ℕ → ℕ
one_more n = min (n + 1) (2 ^ 64 - 1)

-- this number is listed
abbrev pub is_listed : List ℕ → ℕ → Bool
is_listed numbers n = list_any (λ k. k == n) numbers
