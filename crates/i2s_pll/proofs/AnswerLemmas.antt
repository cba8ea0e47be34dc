-- The best of all is the answer.
use Rattle.std.proofs.Common.{◌≡◌, ℕ, ◌+◌, ◌*◌, ◌≤◌, inl, inr, Option, Some, None, subst, arith}
use Rattle.std.proofs.lemmas.Bool.{cases_lt}
use Rattle.res_base.specs.Fraction.{Fraction}
use Rattle.res_model.specs.Clock.{vco_in_of}
use Rattle.res_model.specs.declared.clock.ClockChoice.{ClockChoice}
use Rattle.res_model.specs.declared.clock.Facts.{Facts}
use Rattle.res_model.specs.declared.table.Bounds.{Bounds}
use Rattle.res_model.specs.declared.table.TableParts.{TableParts}
use Rattle.i2s_pll.specs.declared.choice.I2s.{I2s}
use Rattle.i2s_pll.specs.Choices.{HasDividers, Meets, SourceIsFed}
use Rattle.i2s_pll.specs.Least.{ComesFirst, IsAnswer, IsFirst, error_of}
use Rattle.i2s_pll.proofs.FractionLemmas.{both_ways}
use Rattle.i2s_pll.specs.Walk.{IsBest, IsSeen, Leads, weight}

first_of : (x y : I2s) → HasDividers x → HasDividers y → weight x ≤ weight y → IsFirst x y
first_of x y h k l =
    let xr = h.r.1 in let xd = h.div.1 in let xo = h.odd in
    let yr = k.r.1 in let yd = k.div.1 in let yo = k.odd in
    elim (cases_lt x.n y.n) [
      | inl a ↦ inl a
      | inr a ↦
          let n : x.n ≡ y.n = omega (arith, a, l, xr, xd, xo, yr, yd, yo) in
          inr (
            n,
            elim (cases_lt x.r y.r) [
              | inl b ↦ inl b
              | inr b ↦
                  let r : x.r ≡ y.r = omega (arith, n, b, l, xd, xo, yd, yo) in
                  inr (
                    r,
                    elim (cases_lt x.div y.div) [
                      | inl d ↦ inl d
                      | inr d ↦
                          let e : x.div ≡ y.div = omega (arith, n, r, d, l, xo, yo) in
                          inr (e, omega (arith, n, r, e, l))
                    ],
                  )
            ],
          )
    ]

comes_first : (input : Fraction) (rate : ℕ) (x y : I2s) → HasDividers x → HasDividers y → Leads input rate x y → ComesFirst input rate x y
comes_first input rate x y h k l =
    elim (cases_lt ((error_of input rate x).num * (error_of input rate y).den) ((error_of input rate y).num * (error_of input rate x).den)) [
      | inl a ↦ inl a
      | inr a ↦
          let least = l.least in
          let same : (error_of input rate x).num * (error_of input rate y).den ≡ (error_of input rate y).num * (error_of input rate x).den = both_ways _ _ least a in
          inr (same, first_of x y h k (l.tie same))
    ]

module _ (t : TableParts) (f : Facts) (home : ClockChoice) (rate : ℕ) (fed : SourceIsFed t f home) where
  seen : (x : I2s) → Meets t f home x → IsSeen t.limits (vco_in_of f home) t.clock.n.0 ((t.clock.n.1 + 1) * 8 + 2) x
  seen x m = record { dividers = m.dividers; bounds = m.bounds; low = m.n.0; below = let a = m.n.1 in let b = m.dividers.r.1 in omega (arith, a, b) }

  meets : (x : I2s) → IsSeen t.limits (vco_in_of f home) t.clock.n.0 ((t.clock.n.1 + 1) * 8 + 2) x → Meets t f home x
  meets x s = record { n = (s.low, let a = s.below in let b = s.dividers.r.0 in omega (arith, a, b)); dividers = s.dividers; source = fed; bounds = s.bounds }

  pub answer_of : (best : Option I2s) → IsBest (vco_in_of f home) rate (IsSeen t.limits (vco_in_of f home) t.clock.n.0 ((t.clock.n.1 + 1) * 8 + 2)) best
      → IsAnswer t f home rate best
  answer_of None h = λ x m. h x (seen x m)
  answer_of (Some x) h =
      let m = meets x h.0 in
      record { meets = m; first = λ y k. comes_first (vco_in_of f home) rate x y m.dividers k.dividers (h.1 y (seen y k)) }

-- the same, where what was asked is named otherwise
pub renamed : (limits others : Bounds) (input same : Fraction) (rate wanted : ℕ) (n range : ℕ × ℕ) (best : Option I2s)
    → limits ≡ others → input ≡ same → rate ≡ wanted → n ≡ range
    → IsBest input rate (IsSeen limits input n.0 ((n.1 + 1) * 8 + 2)) best → IsBest same wanted (IsSeen others same range.0 ((range.1 + 1) * 8 + 2)) best
renamed limits others input same rate wanted n range best a b c d h =
    let h1 = subst (λ (x : Bounds). IsBest input rate (IsSeen x input n.0 ((n.1 + 1) * 8 + 2)) best) a h in
    let h2 = subst (λ (x : Fraction). IsBest x rate (IsSeen others x n.0 ((n.1 + 1) * 8 + 2)) best) b h1 in
    let h3 = subst (λ (x : ℕ). IsBest same x (IsSeen others same n.0 ((n.1 + 1) * 8 + 2)) best) c h2 in
    subst (λ (x : ℕ × ℕ). IsBest same wanted (IsSeen others same x.0 ((x.1 + 1) * 8 + 2)) best) d h3
