-- How choices and costs grow with each variable.
use Rattle.std.proofs.Common.{◌≡◌, ℕ, zero, suc, ◌+◌, ◌*◌, ◌^◌, ◌<◌, ◌≤◌, List, [], ◌∷◌, length, take, get_or, ap, sym, ◌∙◌, inl, inr, arith}
use Rattle.std.proofs.lemmas.Nat.{mul-le}
use Rattle.std.proofs.Math.Nat.{mul_assoc}
use Rattle.std.proofs.lemmas.Bool.Decides.{nat_tests}
use Rattle.choice_rank.specs.declared.variable.Costs.{Costs}
use Rattle.choice_rank.specs.declared.variable.Costs.TheVariants.{HomeFirst, AllZero, AllOne}
use Rattle.choice_rank.specs.declared.variable.VarShape.{VarShape}
use Rattle.choice_rank.specs.Choices.{choices_of, cost_most, costs_most, HasPositions, IsNarrow, HasSmallSizes, IsFirstWide}
use Rattle.res_base.proofs.SumLemmas.{le_or}
use Rattle.choice_rank.proofs.ChoiceLemmas.{nothing, choices_pos}

-- one variable more
pub choices_grow : (vs : List VarShape) (i : ℕ) → i < length vs → choices_of (take (suc i) vs) ≡ choices_of (take i vs) * (get_or vs i nothing).size
choices_grow [] i h = absurd (omega arith)
choices_grow (v ∷ vs) zero h = omega arith
choices_grow (v ∷ vs) (suc i) h = ap (λ n. v.size * n) (choices_grow vs i (omega arith)) ∙ sym (mul_assoc v.size (choices_of (take i vs)) (get_or vs i nothing).size)

pub costs_grow : (vs : List VarShape) (i : ℕ) → i < length vs → costs_most (take (suc i) vs) ≡ costs_most (take i vs) + cost_most (get_or vs i nothing).costs (get_or vs i nothing).size
costs_grow [] i h = absurd (omega arith)
costs_grow (v ∷ vs) zero h = omega arith
costs_grow (v ∷ vs) (suc i) h = omega (arith, costs_grow vs i (omega arith))

pub cost_most_le : (c : Costs) (size : ℕ) → cost_most c size ≤ 1
cost_most_le HomeFirst size = grind (arith, nat_tests)
cost_most_le AllZero size = omega arith
cost_most_le AllOne size = omega arith

pub size_at : (vs : List VarShape) (i : ℕ) → HasSmallSizes vs → i < length vs → (get_or vs i nothing).size ≤ 512
size_at [] i s h = absurd (omega arith)
size_at (v ∷ vs) zero s h = s.0
size_at (v ∷ vs) (suc i) s h = size_at vs i s.1 (omega arith)

costs_take : (vs : List VarShape) (i : ℕ) → costs_most (take i vs) ≤ costs_most vs
costs_take vs zero = omega arith
costs_take [] (suc i) = omega arith
costs_take (v ∷ vs) (suc i) = omega (arith, costs_take vs i)

choices_take : (vs : List VarShape) (i : ℕ) → HasPositions vs → choices_of (take i vs) ≤ choices_of vs
choices_take vs zero h = choices_pos vs h
choices_take [] (suc i) h = omega arith
choices_take (v ∷ vs) (suc i) h = mul-le v.size (choices_of (take i vs)) v.size (choices_of vs) (omega arith) (choices_take vs i h.1)

-- the prefix of a narrow shape is narrow
pub narrow_take : (vs : List VarShape) (i : ℕ) → HasPositions vs → IsNarrow vs → IsNarrow (take i vs)
narrow_take vs i h n =
    omega (arith, mul-le (1 + costs_most (take i vs)) (choices_of (take i vs)) (1 + costs_most vs) (choices_of vs) (omega (arith, costs_take vs i)) (choices_take vs i h))

-- what the loop over the variables knows
pub record Grown (vs : List VarShape) (product most i : ℕ) : Type 0 where
  pub product_is : product ≡ choices_of (take i vs)
  pub most_is : most ≡ costs_most (take i vs)
  pub few : most ≤ i
  pub narrow : (w : ℕ) → w ≤ i → IsNarrow (take w vs)

module _ (vs : List VarShape) (product most i size cost : ℕ) (g : Grown vs product most i) (lt : i < length vs) (size_is : size ≡ (get_or vs i nothing).size) (cost_is : cost ≡ cost_most (get_or vs i nothing).costs (get_or vs i nothing).size) where
  product_next : product * size ≡ choices_of (take (i + 1) vs)
  product_next =
      let one : i + 1 ≡ suc i = omega arith in
      ap (λ p. p * size) g.product_is ∙ ap (λ s. choices_of (take i vs) * s) size_is ∙ sym (rw one (choices_grow vs i lt))

  most_next : most + cost ≡ costs_most (take (i + 1) vs)
  most_next =
      let one : i + 1 ≡ suc i = omega arith in
      ap (λ m. m + cost) g.most_is ∙ ap (λ c. costs_most (take i vs) + c) cost_is ∙ sym (rw one (costs_grow vs i lt))

  width_next : (1 + (most + cost)) * (product * size) ≡ (1 + costs_most (take (i + 1) vs)) * choices_of (take (i + 1) vs)
  width_next = ap (λ m. (1 + m) * (product * size)) most_next ∙ ap (λ p. (1 + costs_most (take (i + 1) vs)) * p) product_next

  pub grown_next : (1 + (most + cost)) * (product * size) ≤ 2 ^ 63 → Grown vs (product * size) (most + cost) (i + 1)
  grown_next fits = record {
    product_is = product_next;
    most_is = most_next;
    few = omega (arith, g.few, cost_is, cost_most_le (get_or vs i nothing).costs (get_or vs i nothing).size);
    narrow = λ w le. elim (le_or w (i + 1)) [
      | inl l ↦ g.narrow w (omega arith)
      | inr e ↦ let same : w ≡ i + 1 = omega arith in rw same (omega (arith, width_next))
    ];
  }

  pub grown_wide : HasPositions vs → 2 ^ 63 < (1 + (most + cost)) * (product * size) → (IsNarrow vs → ⊥) × IsFirstWide vs i
  grown_wide h over =
      let wide : IsNarrow (take (i + 1) vs) → ⊥ = λ n. omega (arith, n, width_next) in (
        λ n. wide (narrow_take vs (i + 1) h n),
        record {
          within = lt;
          wide = wide;
          first = λ w l. g.narrow (w + 1) (omega arith);
        },
      )
