-- Boxes, their halves and their lows.
use Rattle.std.proofs.Common.{◌≡◌, ℕ, zero, suc, ◌+◌, ◌*◌, ◌/◌, ◌%◌, ◌<◌, ◌≤◌, List, [], ◌∷◌, Bool, true, false, ◌&&◌, cond, eqb, ltb, leb, Option, Some, None, ◌⊎◌, inl, inr, refl, ap, sym, ◌∙◌, arith}
use Rattle.std.specs.Prelude.{option_and_then}
use Rattle.std.specs.Option.{option_map_or}
use Rattle.std.proofs.lemmas.Bool.Decides.{nat_tests}
use Rattle.std.proofs.lemmas.Nat.{mul-le}
use Rattle.choice_rank.specs.declared.variable.Costs.{Costs}
use Rattle.choice_rank.specs.declared.variable.Costs.TheVariants.{HomeFirst, AllZero, AllOne}
use Rattle.choice_rank.specs.declared.variable.VarShape.{VarShape}
use Rattle.choice_rank.specs.Choices.{choices_of, index_of, cost_at, cost_of, rank_of}
use Rattle.res_base.specs.Sums.{one_if}
use Rattle.box_split.specs.Boxes.{Run, whole, holds, is_single, lows, low_of}
use Rattle.box_split.specs.Paths.{cut_of, lower, upper, half, box_within, box_of, covers}

pub and_both : (a b : Bool) → (a && b) ≡ true → (a ≡ true) × (b ≡ true)
and_both true b h = (refl, h)
and_both false b h = cc

-- ---- lows
pub cost_at_mono : (c : Costs) (x y : ℕ) → x ≤ y → cost_at c x ≤ cost_at c y
cost_at_mono HomeFirst x y h = grind (arith, nat_tests)
cost_at_mono AllZero x y h = omega arith
cost_at_mono AllOne x y h = omega arith

-- the run of a held position
pub held : (r : Run) (rs : List Run) (x : ℕ) (xs : List ℕ) → holds (r ∷ rs) (x ∷ xs) ≡ true → (r.low ≤ x) × (x ≤ r.high) × (holds rs xs ≡ true)
held r rs x xs h =
    let a = and_both (leb r.low x && leb x r.high) (holds rs xs) h in
    let b = and_both (leb r.low x) (leb x r.high) a.0 in
    let lo : r.low ≤ x = grind (arith, nat_tests, b.0) in
    let hi : x ≤ r.high = grind (arith, nat_tests, b.1) in
    (lo, hi, a.1)

pub low_cost : (vs : List VarShape) (rs : List Run) (xs : List ℕ) → holds rs xs ≡ true → cost_of vs (lows rs) ≤ cost_of vs xs
low_cost [] rs xs h = omega arith
low_cost (v ∷ vs) [] xs h = omega arith
low_cost (v ∷ vs) (r ∷ rs) [] h = cc
low_cost (v ∷ vs) (r ∷ rs) (x ∷ xs) h =
    let a = held r rs x xs h in
    omega (arith, cost_at_mono v.costs r.low x a.0, low_cost vs rs xs a.2)

pub low_index : (vs : List VarShape) (rs : List Run) (xs : List ℕ) → holds rs xs ≡ true → index_of vs (lows rs) ≤ index_of vs xs
low_index [] rs xs h = omega arith
low_index (v ∷ vs) [] xs h = omega arith
low_index (v ∷ vs) (r ∷ rs) [] h = cc
low_index (v ∷ vs) (r ∷ rs) (x ∷ xs) h =
    let a = held r rs x xs h in
    omega (arith, mul-le r.low (choices_of vs) x (choices_of vs) a.0 (omega arith), low_index vs rs xs a.2)

pub low_rank : (vs : List VarShape) (rs : List Run) (xs : List ℕ) → holds rs xs ≡ true → low_of vs rs ≤ rank_of vs xs
low_rank vs rs xs h =
    omega (arith, mul-le (cost_of vs (lows rs)) (choices_of vs) (cost_of vs xs) (choices_of vs) (low_cost vs rs xs h) (omega arith), low_index vs rs xs h)

-- ---- halves
pub cut_inside : (r : Run) → r.low < r.high → (r.low ≤ cut_of r) × (cut_of r < r.high)
cut_inside r h = (grind (arith, nat_tests), grind (arith, nat_tests))

-- a position is in one of the two parts of its run
pub parted : (l k u x : ℕ) (rest : Bool) → l ≤ k → k < u → one_if ((leb l x && leb x k) && rest) + one_if ((leb (k + 1) x && leb x u) && rest) ≡ one_if ((leb l x && leb x u) && rest)
parted l k u x rest p q = grind (arith, nat_tests)

pub same_prefix : (b x y z : Bool) → one_if x + one_if y ≡ one_if z → one_if (b && x) + one_if (b && y) ≡ one_if (b && z)
same_prefix true x y z h = h
same_prefix false x y z h = refl

pub lt_tells : (a b : ℕ) → ((ltb a b ≡ true) × (a < b)) ⊎ ((ltb a b ≡ false) × (b ≤ a))
lt_tells a b = grind (arith, nat_tests)

pub not_first : (a b : Bool) → a ≡ true → (a && b) ≡ false → b ≡ false
not_first true b e h = h
not_first false b e h = cc

pub halved : (rs : List Run) (xs : List ℕ) → is_single rs ≡ false → one_if (holds (lower rs) xs) + one_if (holds (upper rs) xs) ≡ one_if (holds rs xs)
halved [] xs h = cc
halved (r ∷ rs) [] h = elim (lt_tells r.low r.high) [ inl y ↦ rw y.0 refl | inr n ↦ rw n.0 refl ]
halved (r ∷ rs) (x ∷ xs) h = elim (lt_tells r.low r.high) [
  | inl y ↦ let c = cut_inside r y.1 in rw y.0 (parted r.low (cut_of r) r.high x (holds rs xs) c.0 c.1)
  | inr n ↦
      let rest : is_single rs ≡ false = not_first (leb r.high r.low) (is_single rs) (grind (arith, nat_tests, n.1)) h in
      rw n.0 (same_prefix (leb r.low x && leb x r.high) (holds (lower rs) xs) (holds (upper rs) xs) (holds rs xs) (halved rs xs rest))
]

-- ---- paths
pub within_none : (vs : List VarShape) (n : ℕ) → box_within n vs 0 ≡ None
within_none vs zero = refl
within_none vs (suc n) = rw (within_none vs n) refl

pub within_same : (vs : List VarShape) (n m p : ℕ) → p ≤ n → p ≤ m → box_within n vs p ≡ box_within m vs p
within_same vs zero zero p h k = refl
within_same vs zero (suc m) p h k = let e : p ≡ 0 = omega arith in rw e (sym (within_none vs (suc m)))
within_same vs (suc n) zero p h k = let e : p ≡ 0 = omega arith in rw e (within_none vs (suc n))
within_same vs (suc n) (suc m) p h k =
    ap (λ b. cond (eqb p 1) (Some (whole vs)) (option_and_then (half (p % 2)) b)) (within_same vs n m (p / 2) (omega arith) (omega arith))

pub box_root : (vs : List VarShape) → box_of vs 1 ≡ Some (whole vs)
unfolding box_of
box_root vs = refl

pub positive : (vs : List VarShape) (p : ℕ) (box : List Run) → box_of vs p ≡ Some box → 0 < p
unfolding box_of
positive vs zero box e = cc
positive vs (suc p) box e = omega arith

pub box_half : (vs : List VarShape) (p bit : ℕ) → 0 < p → bit < 2 → box_of vs (2 * p + bit) ≡ option_and_then (half bit) (box_of vs p)
unfolding box_of
box_half vs p bit h k =
    let q = 2 * p + bit in
    let more = within_same vs q (suc q) q (omega arith) (omega arith) in
    let e0 : eqb q 1 ≡ false = grind (arith, nat_tests) in
    let e1 : q % 2 ≡ bit = omega arith in
    let e2 : q / 2 ≡ p = omega arith in
    more ∙ ap (λ b. cond b (Some (whole vs)) (option_and_then (half (q % 2)) (box_within q vs (q / 2)))) e0
    ∙ ap (λ b. option_and_then (half b) (box_within q vs (q / 2))) e1
    ∙ ap (λ n. option_and_then (half bit) (box_within q vs n)) e2
    ∙ ap (option_and_then (half bit)) (within_same vs q p p (omega arith) (omega arith))

-- ---- the halves of a path
half_count : (box : List Run) (xs : List ℕ) → is_single box ≡ false → option_map_or (λ b. one_if (holds b xs)) (half 0 box) 0 + option_map_or (λ b. one_if (holds b xs)) (half 1 box) 0 ≡ one_if (holds box xs)
half_count box xs h = rw h (halved box xs h)

pub halves_count : (vs : List VarShape) (path : ℕ) (box : List Run) → box_of vs path ≡ Some box → is_single box ≡ false → (choice : List ℕ) → covers vs (2 * path) choice + covers vs (2 * path + 1) choice ≡ covers vs path choice
halves_count vs path box at h xs =
    let pos : 0 < path = positive vs path box at in
    let F : Option (List Run) → ℕ = λ o. option_map_or (λ b. one_if (holds b xs)) o 0 in
    let zero_half : box_of vs (2 * path) ≡ half 0 box = ap (box_of vs) (omega arith) ∙ box_half vs path 0 pos (omega arith) ∙ ap (option_and_then (half 0)) at in
    let one_half : box_of vs (2 * path + 1) ≡ half 1 box = box_half vs path 1 pos (omega arith) ∙ ap (option_and_then (half 1)) at in
    let l : covers vs (2 * path) xs ≡ F (half 0 box) = ap F zero_half in
    let r : covers vs (2 * path + 1) xs ≡ F (half 1 box) = ap F one_half in
    let w : covers vs path xs ≡ one_if (holds box xs) = ap F at in
    omega (arith, l, r, w, half_count box xs h)
