-- The weights of the places.
use Rattle.std.proofs.Common.{◌≡◌, ℕ, zero, suc, ◌+◌, ◌*◌, ◌/◌, ◌^◌, ◌<◌, List, [], ◌∷◌, ◌++◌, length, drop, get_or, append_assoc, refl, ap, sym, ◌∙◌, arith}
use Rattle.std.proofs.lemmas.List.{drop_more}
use Rattle.std.proofs.Math.Nat.{mul-div_cancel_left}
use Rattle.choice_rank.specs.declared.variable.VarShape.{VarShape}
use Rattle.choice_rank.specs.Choices.{IsChoice, choices_of, index_of, HasPositions, IsNarrow}
use Rattle.choice_rank.specs.Weights.{weights_of}
use Rattle.choice_rank.proofs.ChoiceLemmas.{nothing, choice_length, choices_more, index_more, index_below, positions_at}

pub length_weights : (vs : List VarShape) → length (weights_of vs) ≡ length vs
length_weights [] = refl
length_weights (v ∷ vs) = ap suc (length_weights vs)

pub weight_at : (vs : List VarShape) (i : ℕ) → i < length vs → get_or (weights_of vs) i 0 ≡ choices_of (drop (i + 1) vs)
weight_at [] i h = absurd (omega arith)
weight_at (v ∷ vs) zero h = refl
weight_at (v ∷ vs) (suc i) h = let e : suc i + 1 ≡ suc (i + 1) = omega arith in rw e (weight_at vs i (omega arith))

-- one place more
pub index_next : (vs : List VarShape) (ws xs : List ℕ) (i sum x w : ℕ) → IsChoice vs xs → ws ≡ weights_of vs → i < length vs → sum + index_of (drop i vs) (drop i xs) ≡ index_of vs xs → x ≡ get_or xs i 0 → w ≡ get_or ws i 0 → sum + x * w + index_of (drop (i + 1) vs) (drop (i + 1) xs) ≡ index_of vs xs
index_next vs ws xs i sum x w h es lt e ex ew =
    let same : w ≡ choices_of (drop (i + 1) vs) = ew ∙ ap (λ l. get_or l i 0) es ∙ weight_at vs i lt in
    let more = index_more vs xs i nothing lt (omega (arith, choice_length vs xs h)) in
    let product : x * w ≡ get_or xs i 0 * choices_of (drop (i + 1) vs) = ap (λ y. y * w) ex ∙ ap (λ y. get_or xs i 0 * y) same in
    omega (arith, more, product)

-- a part of the sum is no more than the index
pub index_part : (vs : List VarShape) (ws xs : List ℕ) (i sum x w : ℕ) → IsNarrow vs → IsChoice vs xs → ws ≡ weights_of vs → i < length vs → sum + index_of (drop i vs) (drop i xs) ≡ index_of vs xs → x ≡ get_or xs i 0 → w ≡ get_or ws i 0 → sum + x * w < 2 ^ 63
index_part vs ws xs i sum x w n h es lt e ex ew =
    omega (arith, index_next vs ws xs i sum x w h es lt e ex ew, index_below vs xs n h)

-- a weight from the one before it
pub weight_next : (vs : List VarShape) (i size weight : ℕ) → HasPositions vs → i < length vs → size ≡ (get_or vs i nothing).size → weight ≡ choices_of (drop i vs) → weight / size ≡ choices_of (drop (i + 1) vs)
weight_next vs i size weight h lt es ew =
    let pos : 0 < size = omega (arith, positions_at vs i nothing h lt) in
    let product : weight ≡ size * choices_of (drop (i + 1) vs) = ew ∙ choices_more vs i nothing lt ∙ ap (λ s. s * choices_of (drop (i + 1) vs)) (sym es) in
    ap (λ w. w / size) product ∙ mul-div_cancel_left (choices_of (drop (i + 1) vs)) pos

pub weights_more : (vs : List VarShape) (i : ℕ) → i < length vs → weights_of (drop i vs) ≡ choices_of (drop (i + 1) vs) ∷ weights_of (drop (i + 1) vs)
weights_more vs i h = rw (drop_more vs i nothing h) refl

pub weights_next : (vs : List VarShape) (ws new : List ℕ) (i weight : ℕ) → i < length vs → weight ≡ choices_of (drop (i + 1) vs) → new ≡ ws ++ weight ∷ [] → ws ++ weights_of (drop i vs) ≡ weights_of vs → new ++ weights_of (drop (i + 1) vs) ≡ weights_of vs
weights_next vs ws new i weight lt ew en e =
    ap (λ l. l ++ weights_of (drop (i + 1) vs)) en ∙ append_assoc ws (weight ∷ []) (weights_of (drop (i + 1) vs))
    ∙ ap (λ w. ws ++ w ∷ weights_of (drop (i + 1) vs)) ew ∙ ap (λ l. ws ++ l) (sym (weights_more vs i lt)) ∙ e
