-- Boxes on a stack, and the parts of a box in a buffer.
use Rattle.std.proofs.Common.{◌≡◌, ℕ, zero, suc, ◌+◌, ◌<◌, ◌≤◌, List, [], ◌∷◌, ◌++◌, length, get_or, set, true, false, ◌&&◌, leb, ltb, refl, ap, ◌∙◌, arith}
use Rattle.std.specs.Prelude.{map}
use Rattle.std.proofs.lemmas.Bool.Decides.{nat_tests}
use Rattle.std.proofs.lemmas.List.{reverse-append}
use Rattle.choice_rank.specs.declared.variable.VarShape.{VarShape}
use Rattle.box_split.specs.declared.buffer.BoxBuf.{BoxBuf}
use Rattle.box_split.specs.BoxIn.{box_in, runs_in}
use Rattle.box_split.specs.Boxes.{Run, IsBox}
use Rattle.box_split.proofs.RunLemmas.{and_both}
use Rattle.refutation.specs.Trees.{low_part, high_part}
use Rattle.tree_check.specs.Due.{boxes_of, AreBoxes}
use Rattle.tree_check.specs.Faults.{can_split}
use Rattle.tree_check.proofs.PartLemmas.{splits, low_is_box, high_is_box}

pub boxes_push : (vs : List VarShape) (xs : List BoxBuf) (b : BoxBuf) → boxes_of vs (xs ++ b ∷ []) ≡ box_in vs b ∷ boxes_of vs xs
boxes_push vs xs b = ap (map (λ x. box_in vs x)) (reverse-append xs (b ∷ []))

-- the runs of one variable in two slices
pub can_at : (n : ℕ) (lo hi : List ℕ) (v k : ℕ) → n ≤ length lo → n ≤ length hi → v < n → can_split v k (runs_in n lo hi) ≡ (leb (get_or lo v 0) k && ltb k (get_or hi v 0))
can_at zero lo hi v k a b l = absurd (omega arith)
can_at (suc n) [] hi v k a b l = absurd (omega arith)
can_at (suc n) (x ∷ lo) [] v k a b l = absurd (omega arith)
can_at (suc n) (x ∷ lo) (y ∷ hi) zero k a b l = refl
can_at (suc n) (x ∷ lo) (y ∷ hi) (suc v) k a b l = can_at n lo hi v k (omega arith) (omega arith) (omega arith)

pub can_past : (n : ℕ) (lo hi : List ℕ) (v k : ℕ) → n ≤ v → can_split v k (runs_in n lo hi) ≡ false
can_past zero lo hi v k l = refl
can_past (suc n) [] hi v k l = refl
can_past (suc n) (x ∷ lo) [] v k l = refl
can_past (suc n) (x ∷ lo) (y ∷ hi) zero k l = absurd (omega arith)
can_past (suc n) (x ∷ lo) (y ∷ hi) (suc v) k l = can_past n lo hi v k (omega arith)

pub record Splits (n : ℕ) (hi : List ℕ) (v k : ℕ) : Type 0 where
  pub within : v < n
  pub before : k < get_or hi v 0

pub split_within : (n : ℕ) (lo hi : List ℕ) (v k : ℕ) → can_split v k (runs_in n lo hi) ≡ true → Splits n hi v k
split_within zero lo hi v k h = cc
split_within (suc n) [] hi v k h = cc
split_within (suc n) (x ∷ lo) [] v k h = cc
split_within (suc n) (x ∷ lo) (y ∷ hi) zero k h =
    let b = and_both (leb x k) (ltb k y) h in
    record { within = omega arith; before = grind (arith, nat_tests, b.1) }
split_within (suc n) (x ∷ lo) (y ∷ hi) (suc v) k h =
    let s = split_within n lo hi v k h in
    record { within = omega (arith, s.within); before = s.before }

pub low_part_at : (n : ℕ) (lo hi : List ℕ) (v k : ℕ) → can_split v k (runs_in n lo hi) ≡ true → runs_in n lo (set hi v k) ≡ low_part v k (runs_in n lo hi)
low_part_at zero lo hi v k h = cc
low_part_at (suc n) [] hi v k h = cc
low_part_at (suc n) (x ∷ lo) [] v k h = cc
low_part_at (suc n) (x ∷ lo) (y ∷ hi) zero k h = refl
low_part_at (suc n) (x ∷ lo) (y ∷ hi) (suc v) k h = ap (λ rs. record { low = x; high = y } ∷ rs) (low_part_at n lo hi v k h)

pub high_part_at : (n : ℕ) (lo hi : List ℕ) (v k : ℕ) → can_split v k (runs_in n lo hi) ≡ true → runs_in n (set lo v (k + 1)) hi ≡ high_part v k (runs_in n lo hi)
high_part_at zero lo hi v k h = cc
high_part_at (suc n) [] hi v k h = cc
high_part_at (suc n) (x ∷ lo) [] v k h = cc
high_part_at (suc n) (x ∷ lo) (y ∷ hi) zero k h = refl
high_part_at (suc n) (x ∷ lo) (y ∷ hi) (suc v) k h = ap (λ rs. record { low = x; high = y } ∷ rs) (high_part_at n lo hi v k h)

module _ (vs : List VarShape) where
  pub parts_pushed : (old mid new : List BoxBuf) (high low : BoxBuf) (v k : ℕ) (box : List Run) → mid ≡ old ++ high ∷ [] → new ≡ mid ++ low ∷ []
      → box_in vs high ≡ high_part v k box → box_in vs low ≡ low_part v k box → boxes_of vs new ≡ low_part v k box ∷ high_part v k box ∷ boxes_of vs old
  parts_pushed old mid new high low v k box e f h l =
      ap (boxes_of vs) f ∙ boxes_push vs mid low ∙ ap (λ bs. box_in vs low ∷ bs) (ap (boxes_of vs) e ∙ boxes_push vs old high)
      ∙ ap (λ x. x ∷ box_in vs high ∷ boxes_of vs old) l ∙ ap (λ x. low_part v k box ∷ x ∷ boxes_of vs old) h

  pub parts_are_boxes : (old : List BoxBuf) (v k : ℕ) (box : List Run) → IsBox vs box → can_split v k box ≡ true → AreBoxes vs (boxes_of vs old) → AreBoxes vs (low_part v k box ∷ high_part v k box ∷ boxes_of vs old)
  parts_are_boxes old v k box b h a = let s = splits v k box h in (low_is_box vs v k box b s, (high_is_box vs v k box b s, a))
