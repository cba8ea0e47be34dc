-- Which of two choices leads the other.
use Rattle.std.proofs.Common.{◌≡◌, ℕ, ◌+◌, ◌*◌, ◌/◌, ◌<◌, ◌≤◌, ◌⊎◌, inl, inr, min, max, refl, sym, subst, arith}
use Rattle.std.proofs.lemmas.Bool.{cases_lt}
use Rattle.std.proofs.lemmas.Nat.{mul-le}
use Rattle.std.proofs.Math.Nat.{le_of_mul-le-mul_left}
use Rattle.res_base.specs.Fraction.{Fraction, Equals, IsAtMost}
use Rattle.i2s_pll.specs.declared.choice.I2s.{I2s}
use Rattle.i2s_pll.specs.Choices.{HasDividers, divider}
use Rattle.i2s_pll.specs.Least.{apart, error_of}
use Rattle.i2s_pll.specs.Walk.{IsBefore, IsNearer, Leads, weight}
use Rattle.i2s_pll.proofs.FractionLemmas.{at_most_trans, clash, crossing_high, crossing_low, first_equal, nearer_above, nearer_below, not_above, same_divider, second_equal, weaken}

pub positive : (a b : ℕ) → 0 < a → 0 < b → 0 < a * b
positive a b p q = let h = mul-le 1 1 a b (omega arith) (omega arith) in omega (arith, h)

-- the error by its numbers
abbrev spread : Fraction → ℕ → ℕ → ℕ → ℕ → Fraction
spread input rate n r d = record { num = apart (input.num * n) (rate * (input.den * r * 256 * d)); den = input.den * r * 256 * d }

spread_some : (input : Fraction) (x : I2s) → 0 < input.den → HasDividers x → 0 < input.den * x.r * 256 * divider x
spread_some input x p h =
    let a = positive input.den x.r p (omega (arith, h.r)) in
    let b = positive (input.den * x.r) 256 a (omega arith) in
    positive (input.den * x.r * 256) (divider x) b (omega (arith, h.div))

-- ---- the order

before_trans : (a b c : Fraction) (u v w : ℕ) → 0 < a.den → 0 < b.den → 0 < c.den → IsBefore a b u v → IsBefore b c v w → IsBefore a c u w
before_trans a b c u v w p q r h k = record {
  least = at_most_trans a.num a.den b.num b.den c.num c.den q h.least k.least;
  tie = λ (s : Equals a c).
      let x = h.tie (first_equal a.num a.den b.num b.den c.num c.den r h.least k.least s) in
      let y = k.tie (second_equal a.num a.den b.num b.den c.num c.den p h.least k.least s) in
      omega (arith, x, y);
}

module _ (input : Fraction) (rate : ℕ) (some : 0 < input.den) where
  pub leads_trans : (x y z : I2s) → HasDividers x → HasDividers y → HasDividers z → Leads input rate x y → Leads input rate y z → Leads input rate x z
  leads_trans x y z hx hy hz h k =
      before_trans (error_of input rate x) (error_of input rate y) (error_of input rate z) (weight x) (weight y) (weight z)
      (spread_some input x some hx) (spread_some input y some hy) (spread_some input z some hz) h k

  -- ---- choices with one N and R
  module _ (n r : ℕ) (r_some : 0 < r) (rate_some : 0 < rate) where
    base_some : 0 < input.den * r * 256
    base_some = positive (input.den * r) 256 (positive input.den r some r_some) (omega arith)

    above : (l d : ℕ) → d ≤ l → 0 < l → rate * (input.den * r * 256 * l) ≤ input.num * n
        → IsBefore (spread input rate n r l) (spread input rate n r d) ((n * 8 + r) * 512 + l) ((n * 8 + r) * 512 + d)
    above l d h p k =
        let x : ℕ = input.den * r * 256 * l in
        let y : ℕ = input.den * r * 256 * d in
        let order : y ≤ x = mul-le (input.den * r * 256) d (input.den * r * 256) l (omega arith) h in
        let some_x : 0 < x = positive (input.den * r * 256) l base_some p in
        let some_a : 0 < input.num * n = let m = positive rate x rate_some some_x in omega (arith, m, k) in
        record {
          least = nearer_above (input.num * n) rate x y order k;
          tie = λ s.
              let same : x ≤ y = same_divider (input.num * n) rate x y order k some_a s in
              let low : l ≤ d = le_of_mul-le-mul_left same base_some in
              omega (arith, low);
        }

    below : (l d : ℕ) → l ≤ d → input.num * n ≤ rate * (input.den * r * 256 * l)
        → IsBefore (spread input rate n r l) (spread input rate n r d) ((n * 8 + r) * 512 + l) ((n * 8 + r) * 512 + d)
    below l d h k =
        let x : ℕ = input.den * r * 256 * l in
        let y : ℕ = input.den * r * 256 * d in
        let order : x ≤ y = mul-le (input.den * r * 256) l (input.den * r * 256) d (omega arith) h in
        record { least = nearer_below (input.num * n) rate x y order k; tie = λ s. omega (arith, h) }

    -- from the numbers to the choices
    carried : (x y : I2s) → x.n ≡ n → x.r ≡ r → y.n ≡ n → y.r ≡ r
        → IsBefore (spread input rate n r (divider x)) (spread input rate n r (divider y)) ((n * 8 + r) * 512 + divider x) ((n * 8 + r) * 512 + divider y)
        → Leads input rate x y
    carried x y xn xr yn yr h =
        let to : ℕ → ℕ → ℕ → ℕ → Type 0 =
        λ a b c d. IsBefore (spread input rate a b (divider x)) (spread input rate c d (divider y)) ((a * 8 + b) * 512 + divider x) ((c * 8 + d) * 512 + divider y) in
        let h1 : to x.n r n r = subst (λ (a : ℕ). to a r n r) (sym xn) h in
        let h2 : to x.n x.r n r = subst (λ (b : ℕ). to x.n b n r) (sym xr) h1 in
        let h3 : to x.n x.r y.n r = subst (λ (c : ℕ). to x.n x.r c r) (sym yn) h2 in
        let h4 : to x.n x.r y.n y.r = subst (λ (d : ℕ). to x.n x.r y.n d) (sym yr) h3 in
        h4

    -- the two beside the crossing, within the range of dividers
    module _ (q : ℕ) (q_is : q ≡ input.num * n / (input.den * r) / (256 * rate)) where
      low_crossing : q * (256 * rate) * (input.den * r) ≤ input.num * n
      low_crossing = subst (λ (k : ℕ). k * (256 * rate) * (input.den * r) ≤ input.num * n) (sym q_is)
          (crossing_low (input.num * n) (input.den * r) (256 * rate))

      high_crossing : input.num * n < (q + 1) * (256 * rate) * (input.den * r)
      high_crossing = subst (λ (k : ℕ). input.num * n < (k + 1) * (256 * rate) * (input.den * r)) (sym q_is)
          (crossing_high (input.num * n) (input.den * r) (256 * rate) (positive input.den r some r_some) (omega (arith, rate_some)))

      low_side : (l : ℕ) → l ≤ q → rate * (input.den * r * 256 * l) ≤ input.num * n
      low_side l h =
          let k = mul-le l (rate * 256 * (input.den * r)) q (rate * 256 * (input.den * r)) h (omega arith) in
          omega (arith, k, low_crossing)

      high_side : (l : ℕ) → q + 1 ≤ l → input.num * n ≤ rate * (input.den * r * 256 * l)
      high_side l h =
          let k = mul-le (q + 1) (rate * 256 * (input.den * r)) l (rate * 256 * (input.den * r)) h (omega arith) in
          omega (arith, k, high_crossing)

      pub nearest_of : (a b x : I2s) → a.n ≡ n → a.r ≡ r → b.n ≡ n → b.r ≡ r → HasDividers a → HasDividers b → HasDividers x
          → divider a ≡ max 4 (min q 511) → divider b ≡ max 4 (min (q + 1) 511) → IsNearer input rate a b x
          → (y : I2s) → y.n ≡ n → y.r ≡ r → HasDividers y → Leads input rate x y
      nearest_of a b x an ar bn br ha hb hx da db near y yn yr hy = elim (cases_lt q (divider y)) [
        | inl h ↦
            let order : divider b ≤ divider y = omega (arith, db, h, hy.div, hy.odd) in
            let reach : q + 1 ≤ divider b = omega (arith, db, h, hy.div, hy.odd) in
            leads_trans x b y hx hb hy near.second (carried b y bn br yn yr (below (divider b) (divider y) order (high_side (divider b) reach)))
        | inr h ↦
            let order : divider y ≤ divider a = omega (arith, da, h, hy.div, hy.odd) in
            let reach : divider a ≤ q = omega (arith, da, h, hy.div, hy.odd) in
            leads_trans x a y hx ha hy near.first (carried a y an ar yn yr (above (divider a) (divider y) order (omega (arith, da)) (low_side (divider a) reach)))
      ]

-- ---- the nearer of two
cases_le : (x y : Fraction) → (IsAtMost x y) ⊎ (y.num * x.den < x.num * y.den)
cases_le x y = elim (cases_lt (y.num * x.den) (x.num * y.den)) [ inl l ↦ inr l | inr m ↦ inl m ]

itself : (input : Fraction) (rate : ℕ) (x : I2s) → Leads input rate x x
itself input rate x =
    let e = error_of input rate x in
    record { least = not_above (e.num * e.den); tie = λ s. not_above (weight x) }

module _ (input : Fraction) (rate : ℕ) (a b : I2s) (order : weight a ≤ weight b) where
  pub first_is_nearer : IsAtMost (error_of input rate a) (error_of input rate b) → IsNearer input rate a b a
  first_is_nearer h = record { one = inl refl; first = itself input rate a; second = record { least = h; tie = λ s. order } }

  pub second_is_nearer : (IsAtMost (error_of input rate a) (error_of input rate b) → ⊥) → IsNearer input rate a b b
  second_is_nearer h = record { one = inr refl; first = below; second = itself input rate b }
    where
      below : Leads input rate b a
      below = elim (cases_le (error_of input rate a) (error_of input rate b)) [
        | inl l ↦ absurd (h l)
        | inr m ↦
            let p = error_of input rate a in
            let q = error_of input rate b in
            record { least = weaken (q.num * p.den) (p.num * q.den) m; tie = λ s. absurd (clash (q.num * p.den) (p.num * q.den) m (sym s)) }
      ]
