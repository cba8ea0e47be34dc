-- Indices and ranks of choices.
use Rattle.std.proofs.Common.{◌≡◌, ℕ, zero, suc, ◌+◌, ◌*◌, ◌^◌, ◌<◌, ◌≤◌, List, [], ◌∷◌, length, drop, get_or, refl, ap, ◌∙◌, arith}
use Rattle.std.proofs.lemmas.Nat.{mul-add-lt, same_from_place, mul-le}
use Rattle.std.proofs.lemmas.List.{drop_more}
use Rattle.std.proofs.lemmas.Bool.Decides.{nat_tests}
use Rattle.choice_rank.specs.declared.variable.Costs.{Costs}
use Rattle.choice_rank.specs.declared.variable.Costs.TheVariants.{HomeFirst, AllZero, AllOne}
use Rattle.choice_rank.specs.declared.variable.VarShape.{VarShape}
use Rattle.choice_rank.specs.Choices.{IsChoice, choices_of, index_of, cost_at, cost_of, cost_most, costs_most, rank_of, HasPositions, IsNarrow}

pub index_lt : (vs : List VarShape) (xs : List ℕ) → IsChoice vs xs → index_of vs xs < choices_of vs
index_lt [] [] h = omega arith
index_lt [] (x ∷ xs) h = absurd h
index_lt (v ∷ vs) [] h = absurd h
index_lt (v ∷ vs) (x ∷ xs) h = omega (arith, mul-add-lt x (choices_of vs) (index_of vs xs) v.size h.0 (index_lt vs xs h.1))

pub index_same : (vs : List VarShape) (xs ys : List ℕ) → IsChoice vs xs → IsChoice vs ys → index_of vs xs ≡ index_of vs ys → xs ≡ ys
index_same [] [] [] h k e = refl
index_same [] (x ∷ xs) ys h k e = absurd h
index_same [] [] (y ∷ ys) h k e = absurd k
index_same (v ∷ vs) [] ys h k e = absurd h
index_same (v ∷ vs) (x ∷ xs) [] h k e = absurd k
index_same (v ∷ vs) (x ∷ xs) (y ∷ ys) h k e =
    let both = same_from_place x (index_of vs xs) y (index_of vs ys) (choices_of vs) (index_lt vs xs h.1) (index_lt vs ys k.1) e in
    let rest = index_same vs xs ys h.1 k.1 both.1 in
    cc (both.0, rest)

pub rank_same : (vs : List VarShape) (xs ys : List ℕ) → IsChoice vs xs → IsChoice vs ys → rank_of vs xs ≡ rank_of vs ys → xs ≡ ys
rank_same vs xs ys h k e =
    index_same vs xs ys h k (same_from_place (cost_of vs xs) (index_of vs xs) (cost_of vs ys) (index_of vs ys) (choices_of vs) (index_lt vs xs h) (index_lt vs ys k) e).1

pub choice_length : (vs : List VarShape) (xs : List ℕ) → IsChoice vs xs → length xs ≡ length vs
choice_length [] [] h = refl
choice_length [] (x ∷ xs) h = absurd h
choice_length (v ∷ vs) [] h = absurd h
choice_length (v ∷ vs) (x ∷ xs) h = ap suc (choice_length vs xs h.1)

pub choice_drop : (vs : List VarShape) (xs : List ℕ) (i : ℕ) → IsChoice vs xs → IsChoice (drop i vs) (drop i xs)
choice_drop vs xs zero h = h
choice_drop [] [] (suc i) h = h
choice_drop [] (x ∷ xs) (suc i) h = absurd h
choice_drop (v ∷ vs) [] (suc i) h = absurd h
choice_drop (v ∷ vs) (x ∷ xs) (suc i) h = choice_drop vs xs i h.1

-- one variable on
pub cost_more : (vs : List VarShape) (xs : List ℕ) (i : ℕ) (d : VarShape) → i < length vs → i < length xs → cost_of (drop i vs) (drop i xs) ≡ cost_at (get_or vs i d).costs (get_or xs i 0) + cost_of (drop (i + 1) vs) (drop (i + 1) xs)
cost_more vs xs i d h k = rw (drop_more vs i d h, drop_more xs i 0 k) refl

pub choices_more : (vs : List VarShape) (i : ℕ) (d : VarShape) → i < length vs → choices_of (drop i vs) ≡ (get_or vs i d).size * choices_of (drop (i + 1) vs)
choices_more vs i d h = rw (drop_more vs i d h) refl

pub index_more : (vs : List VarShape) (xs : List ℕ) (i : ℕ) (d : VarShape) → i < length vs → i < length xs → index_of (drop i vs) (drop i xs) ≡ get_or xs i 0 * choices_of (drop (i + 1) vs) + index_of (drop (i + 1) vs) (drop (i + 1) xs)
index_more vs xs i d h k = rw (drop_more vs i d h, drop_more xs i 0 k) refl

pub choice_at : (vs : List VarShape) (xs : List ℕ) (i : ℕ) (d : VarShape) → IsChoice vs xs → i < length vs → get_or xs i 0 < (get_or vs i d).size
choice_at [] xs i d h k = absurd (omega arith)
choice_at (v ∷ vs) [] i d h k = absurd h
choice_at (v ∷ vs) (x ∷ xs) zero d h k = h.0
choice_at (v ∷ vs) (x ∷ xs) (suc i) d h k = choice_at vs xs i d h.1 (omega arith)

pub positions_at : (vs : List VarShape) (i : ℕ) (d : VarShape) → HasPositions vs → i < length vs → 0 < (get_or vs i d).size
positions_at [] i d h k = absurd (omega arith)
positions_at (v ∷ vs) zero d h k = h.0
positions_at (v ∷ vs) (suc i) d h k = positions_at vs i d h.1 (omega arith)

pub positions_drop : (vs : List VarShape) (i : ℕ) → HasPositions vs → HasPositions (drop i vs)
positions_drop vs zero h = h
positions_drop [] (suc i) h = h
positions_drop (v ∷ vs) (suc i) h = positions_drop vs i h.1

pub choices_pos : (vs : List VarShape) → HasPositions vs → 0 < choices_of vs
choices_pos [] h = omega arith
choices_pos (v ∷ vs) h = omega (arith, mul-le 1 1 v.size (choices_of vs) (omega (arith, h.0)) (omega (arith, choices_pos vs h.1)))

-- what is read past the end of a list of variables
abbrev pub nothing : VarShape
nothing = record { size = 0; costs = HomeFirst }

pub cost_at_le : (c : Costs) (x : ℕ) → cost_at c x ≤ 1
cost_at_le HomeFirst x = grind (arith, nat_tests)
cost_at_le AllZero x = omega arith
cost_at_le AllOne x = omega arith

pub index_below : (vs : List VarShape) (xs : List ℕ) → IsNarrow vs → IsChoice vs xs → index_of vs xs < 2 ^ 63
index_below vs xs n h =
    omega (arith, index_lt vs xs h, n, mul-le 1 (choices_of vs) (1 + costs_most vs) (choices_of vs) (omega arith) (omega arith))

pub cost_at_most : (c : Costs) (x size : ℕ) → x < size → cost_at c x ≤ cost_most c size
cost_at_most HomeFirst x size h = grind (arith, nat_tests)
cost_at_most AllZero x size h = omega arith
cost_at_most AllOne x size h = omega arith

pub cost_le : (vs : List VarShape) (xs : List ℕ) → IsChoice vs xs → cost_of vs xs ≤ costs_most vs
cost_le [] xs h = omega arith
cost_le (v ∷ vs) [] h = absurd h
cost_le (v ∷ vs) (x ∷ xs) h = omega (arith, cost_at_most v.costs x v.size h.0, cost_le vs xs h.1)

pub rank_below : (vs : List VarShape) (xs : List ℕ) → IsNarrow vs → IsChoice vs xs → rank_of vs xs < 2 ^ 63
rank_below vs xs n h =
    omega (arith, index_lt vs xs h, n, mul-le (cost_of vs xs) (choices_of vs) (costs_most vs) (choices_of vs) (cost_le vs xs h) (omega arith))

-- the rank, from its parts
pub rank_fits : (vs : List VarShape) (xs : List ℕ) (cost choices index : ℕ) → IsNarrow vs → IsChoice vs xs → cost ≡ cost_of vs xs → choices ≡ choices_of vs → index ≡ index_of vs xs → cost * choices + index < 2 ^ 63
rank_fits vs xs cost choices index n h ec es ei =
    let product : cost * choices ≡ cost_of vs xs * choices_of vs = ap (λ c. c * choices) ec ∙ ap (λ s. cost_of vs xs * s) es in
    omega (arith, rank_below vs xs n h, product)
