-- The two parts of a box that is split, and the rules of nodes as tests.
use Rattle.std.proofs.Common.{◌≡◌, ℕ, zero, suc, ◌==◌, ◌<◌, ◌≤◌, List, [], ◌∷◌, Bool, true, false, ◌&&◌, leb, ltb, Option, Some, None, ◌⊎◌, inl, inr, arith}
use Rattle.std.proofs.lemmas.Bool.Decides.{nat_tests}
use Rattle.std.proofs.lemmas.Bool.{cases_lt}
use Rattle.choice_rank.specs.declared.variable.VarShape.{VarShape}
use Rattle.box_split.specs.Boxes.{Run, IsBox, LiesIn, is_single, low_of, lows}
use Rattle.box_split.proofs.RunLemmas.{and_both}
use Rattle.search_api.specs.Meaning.{Meaning}
use Rattle.refutation.specs.Trees.{CanSplit, low_part, high_part, IsWitness}
use Rattle.tree_check.specs.Faults.{can_split, is_witness}

pub and_yes : (a b : Bool) → a ≡ true → b ≡ true → (a && b) ≡ true
and_yes true b e f = f
and_yes false b e f = cc

pub low_is_box : (vs : List VarShape) (v k : ℕ) (box : List Run) → IsBox vs box → CanSplit v k box → IsBox vs (low_part v k box)
low_is_box [] v k [] b s = absurd s
low_is_box [] v k (r ∷ rs) b s = absurd b
low_is_box (w ∷ ws) v k [] b s = absurd s
low_is_box (w ∷ ws) zero k (r ∷ rs) b s = (s.0, omega (arith, s.1, b.1), b.2)
low_is_box (w ∷ ws) (suc v) k (r ∷ rs) b s = (b.0, b.1, low_is_box ws v k rs b.2 s)

pub high_is_box : (vs : List VarShape) (v k : ℕ) (box : List Run) → IsBox vs box → CanSplit v k box → IsBox vs (high_part v k box)
high_is_box [] v k [] b s = absurd s
high_is_box [] v k (r ∷ rs) b s = absurd b
high_is_box (w ∷ ws) v k [] b s = absurd s
high_is_box (w ∷ ws) zero k (r ∷ rs) b s = (omega (arith, s.1), b.1, b.2)
high_is_box (w ∷ ws) (suc v) k (r ∷ rs) b s = (b.0, b.1, high_is_box ws v k rs b.2 s)

-- a choice in a box lies in one of the parts
pub in_part : (v k : ℕ) (box : List Run) (c : List ℕ) → LiesIn box c → LiesIn (low_part v k box) c ⊎ LiesIn (high_part v k box) c
in_part v k [] c h = inl h
in_part v k (r ∷ rs) [] h = absurd h
in_part zero k (r ∷ rs) (x ∷ xs) h = elim (cases_lt k x) [
  | inl y ↦ inr (omega (arith, y), h.1, h.2)
  | inr n ↦ inl (h.0, omega (arith, n), h.2)
]
in_part (suc v) k (r ∷ rs) (x ∷ xs) h = elim (in_part v k rs xs h.2) [
  | inl y ↦ inl (h.0, h.1, y)
  | inr y ↦ inr (h.0, h.1, y)
]

pub splits : (v k : ℕ) (box : List Run) → can_split v k box ≡ true → CanSplit v k box
splits v k [] h = cc
splits zero k (r ∷ rs) h =
    let b = and_both (leb r.low k) (ltb k r.high) h in
    let low : r.low ≤ k = grind (arith, nat_tests, b.0) in
    let high : k < r.high = grind (arith, nat_tests, b.1) in
    (low, high)
splits (suc v) k (r ∷ rs) h = splits v k rs h

pub splits_back : (v k : ℕ) (box : List Run) → CanSplit v k box → can_split v k box ≡ true
splits_back v k [] h = absurd h
splits_back zero k (r ∷ rs) h =
    let low : leb r.low k ≡ true = grind (arith, nat_tests, h.0) in
    let high : ltb k r.high ≡ true = grind (arith, nat_tests, h.1) in
    and_yes (leb r.low k) (ltb k r.high) low high
splits_back (suc v) k (r ∷ rs) h = splits_back v k rs h

module _ (m : Meaning) where
  pub witness : (bound : Option ℕ) (box : List Run) → is_witness m bound box ≡ true → IsWitness m bound box
  witness None box h = cc
  witness (Some bound) box h =
      let a = and_both (is_single box) (m.legal (lows box) && (low_of m.shape box == bound)) h in
      let b = and_both (m.legal (lows box)) (low_of m.shape box == bound) a.1 in
      let is : low_of m.shape box ≡ bound = grind (arith, nat_tests, b.1) in
      (a.0, b.0, is)

  pub witness_back : (bound : Option ℕ) (box : List Run) → IsWitness m bound box → is_witness m bound box ≡ true
  witness_back None box h = absurd h
  witness_back (Some bound) box h =
      let is : (low_of m.shape box == bound) ≡ true = grind (arith, nat_tests, h.2) in
      and_yes (is_single box) (m.legal (lows box) && (low_of m.shape box == bound)) h.0 (and_yes (m.legal (lows box)) (low_of m.shape box == bound) h.1 is)
