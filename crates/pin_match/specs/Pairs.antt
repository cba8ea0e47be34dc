-- Internal: an assignment in two tables.
use Rattle.std.specs.Prelude.{◌≡◌, ℕ, ◌≤◌, ◌<◌, Bool, true, List, Option, Some, None, length, slice_index_or, slice_set}
use Rattle.pin_match.specs.declared.matching.Match.{Match}
use Rattle.pin_match.specs.declared.walk.Walk.{Walk}
use Rattle.pin_match.specs.Walks.{IsWalk, reached_in, place_in}
use Rattle.pin_match.specs.Assignments.{IsReached, size_of}

-- what a variable has
abbrev pub given_in : Match → ℕ → Option ℕ
given_in a v = slice_index_or a.given v None

-- who has a resource
abbrev pub owner_in : Match → ℕ → Option ℕ
owner_in a r = slice_index_or a.owner r None

-- each table is the inverse of the other
pub record IsPaired (n m : ℕ) (a : Match) : Type 0 where
  pub few : n ≤ 192
  pub few_resources : m ≤ 192
  pub given_long : length a.given ≡ 192
  pub owner_long : length a.owner ≡ 192
  pub given : (v r : ℕ) → v < n → given_in a v ≡ Some r → (r < m) × (owner_in a r ≡ Some v)
  pub owned : (v r : ℕ) → r < m → owner_in a r ≡ Some v → (v < n) × (given_in a v ≡ Some r)

-- and each variable has what is in its set
pub record IsMatch (n m : ℕ) (fits : ℕ → ℕ → Bool) (a : Match) : Type 0 where
  pub paired : IsPaired n m a
  pub in_set : (v r : ℕ) → v < n → given_in a v ≡ Some r → fits v r ≡ true

-- the owners after a resource is let go
abbrev pub released : List (Option ℕ) → Option ℕ → List (Option ℕ)
released owner None = owner
released owner (Some s) = slice_set owner s None

-- the variable gets the resource, and lets go of what it had
abbrev pub gave : Match → ℕ → ℕ → Match
gave a v r = record { given = slice_set a.given v (Some r); owner = slice_set (released a.owner (given_in a v)) r (Some v) }

-- the variable can get the resource, which nobody has
pub record IsOffer (n m : ℕ) (fits : ℕ → ℕ → Bool) (a : Match) (v r : ℕ) : Type 0 where
  pub variable : v < n
  pub resource : r < m
  pub fit : fits v r ≡ true
  pub free : owner_in a r ≡ None

-- a search met an offer to a reached variable
pub record Met (n m : ℕ) (fits : ℕ → ℕ → Bool) (a : Match) (w : Walk) (v r : ℕ) : Type 0 where
  pub offer : IsOffer n m fits a v r
  pub reached : reached_in w v ≡ true

-- a search is closed
pub record IsClosed (n m : ℕ) (fits : ℕ → ℕ → Bool) (a : Match) (w : Walk) : Type 0 where
  pub is_walk : IsWalk n fits (given_in a) w
  pub is_reached : IsReached n m fits (given_in a) (reached_in w) (place_in w)

-- an offer to a reached variable, with the assignment of the search below its place
pub record Carried (n m : ℕ) (fits : ℕ → ℕ → Bool) (f : ℕ → Option ℕ) (w : Walk) (a : Match) (v r : ℕ) : Type 0 where
  pub is_match : IsMatch n m fits a
  pub offer : IsOffer n m fits a v r
  pub reached : reached_in w v ≡ true
  pub same : (x : ℕ) → x < n → reached_in w x ≡ true → place_in w x ≤ place_in w v → given_in a x ≡ f x
  pub size : size_of n (given_in a) ≡ size_of n f
