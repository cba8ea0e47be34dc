-- Boxes: a run of positions for each variable.
use Rattle.std.specs.Prelude.{ℕ, ◌+◌, ◌*◌, ◌-◌, ◌≤◌, ◌<◌, List, [], ◌∷◌, Bool, true, false, ◌&&◌, nat_le, map}
use Rattle.choice_rank.specs.declared.variable.VarShape.{VarShape}
use Rattle.choice_rank.specs.Choices.{rank_of}

-- the positions from low to high
pub record Run : Type 0 where
  pub low : ℕ
  pub high : ℕ

-- a run of positions for each variable
abbrev pub IsBox : List VarShape → List Run → Type 0
IsBox [] [] = Unit {0}
IsBox [] (r ∷ rs) = ⊥
IsBox (v ∷ vs) [] = ⊥
IsBox (v ∷ vs) (r ∷ rs) = (r.low ≤ r.high) × (r.high < v.size) × IsBox vs rs

-- the box of all positions
abbrev pub whole : List VarShape → List Run
whole [] = []
whole (v ∷ vs) = record { low = 0; high = v.size - 1 } ∷ whole vs

-- each position of the choice is in its run
abbrev pub LiesIn : List Run → List ℕ → Type 0
LiesIn [] [] = Unit {0}
LiesIn [] (x ∷ xs) = ⊥
LiesIn (r ∷ rs) [] = ⊥
LiesIn (r ∷ rs) (x ∷ xs) = (r.low ≤ x) × (x ≤ r.high) × LiesIn rs xs

-- the same as a test
abbrev pub holds : List Run → List ℕ → Bool
holds [] [] = true
holds [] (x ∷ xs) = false
holds (r ∷ rs) [] = false
holds (r ∷ rs) (x ∷ xs) = (nat_le r.low x && nat_le x r.high) && holds rs xs

-- no variable has two positions
abbrev pub is_single : List Run → Bool
is_single [] = true
is_single (r ∷ rs) = nat_le r.high r.low && is_single rs

-- how many choices lie in the box
abbrev pub size_of : List Run → ℕ
size_of [] = 1
size_of (r ∷ rs) = (r.high + 1 - r.low) * size_of rs

-- the choice of the lowest positions, and that of the highest
abbrev pub lows : List Run → List ℕ
lows rs = map (λ (r : Run). r.low) rs

abbrev pub highs : List Run → List ℕ
highs rs = map (λ (r : Run). r.high) rs

-- the rank of the choice of the lowest positions
abbrev pub low_of : List VarShape → List Run → ℕ
low_of vs rs = rank_of vs (lows rs)
