-- Boxes are intervals of indices, and the lower half of a box stands before the upper.
use Rattle.std.proofs.Common.{◌≡◌, ◌+◌, ◌*◌, ◌<◌, ◌≤◌, List, [], ◌∷◌, true, false, leb, inl, inr, refl, ap, arith}
use Rattle.std.proofs.lemmas.Bool.Decides.{nat_tests}
use Rattle.std.proofs.lemmas.Nat.{mul-le}
use Rattle.choice_rank.specs.declared.variable.VarShape.{VarShape}
use Rattle.choice_rank.specs.Choices.{IsChoice, choices_of, index_of}
use Rattle.choice_rank.proofs.ChoiceLemmas.{index_lt}
use Rattle.box_split.specs.Boxes.{Run, IsBox, is_single, lows, highs}
use Rattle.box_split.specs.Paths.{cut_of, lower, upper}
use Rattle.box_split.proofs.RunLemmas.{lt_tells, not_first}

pub highs_choice : (vs : List VarShape) (rs : List Run) → IsBox vs rs → IsChoice vs (highs rs)
highs_choice [] [] h = h
highs_choice [] (r ∷ rs) h = absurd h
highs_choice (v ∷ vs) [] h = absurd h
highs_choice (v ∷ vs) (r ∷ rs) h = (h.1, highs_choice vs rs h.2)

-- each choice of the lower half stands before each of the upper half
pub apart : (vs : List VarShape) (rs : List Run) → IsBox vs rs → is_single rs ≡ false → index_of vs (highs (lower rs)) < index_of vs (lows (upper rs))
apart [] [] b s = cc
apart [] (r ∷ rs) b s = absurd b
apart (v ∷ vs) [] b s = absurd b
apart (v ∷ vs) (r ∷ rs) b s = elim (lt_tells r.low r.high) [
  | inl y ↦
      let top = index_lt vs (highs rs) (highs_choice vs rs b.2) in
      let next = mul-le (cut_of r + 1) (choices_of vs) (cut_of r + 1) (choices_of vs) (omega arith) (omega arith) in
      rw y.0 (omega (arith, top, next))
  | inr n ↦
      let le : leb r.high r.low ≡ true = grind (arith, nat_tests, n.1) in
      let same : r.high ≡ r.low = omega (arith, n.1, b.0) in
      let rest = apart vs rs b.2 (not_first (leb r.high r.low) (is_single rs) le s) in
      rw n.0 (omega (arith, rest, ap (λ x. x * choices_of vs) same))
]

-- the halves begin and end where the box does
pub same_low : (rs : List Run) → lows (lower rs) ≡ lows rs
same_low [] = refl
same_low (r ∷ rs) = elim (lt_tells r.low r.high) [ inl y ↦ rw y.0 refl | inr n ↦ rw n.0 (ap (λ xs. r.low ∷ xs) (same_low rs)) ]

pub same_high : (rs : List Run) → highs (upper rs) ≡ highs rs
same_high [] = refl
same_high (r ∷ rs) = elim (lt_tells r.low r.high) [ inl y ↦ rw y.0 refl | inr n ↦ rw n.0 (ap (λ xs. r.high ∷ xs) (same_high rs)) ]

pub low_le_high : (vs : List VarShape) (rs : List Run) → IsBox vs rs → index_of vs (lows rs) ≤ index_of vs (highs rs)
low_le_high [] rs b = omega arith
low_le_high (v ∷ vs) [] b = omega arith
low_le_high (v ∷ vs) (r ∷ rs) b = omega (arith, low_le_high vs rs b.2, mul-le r.low (choices_of vs) r.high (choices_of vs) b.0 (omega arith))
