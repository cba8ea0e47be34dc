-- The best choice so far, a step of N and R at a time.
use Rattle.std.proofs.Common.{◌≡◌, ℕ, ◌+◌, ◌*◌, ◌<◌, ◌≤◌, inl, inr, Option, Some, None, sym, subst, arith}
use Rattle.std.proofs.lemmas.Bool.{cases_lt}
use Rattle.res_base.specs.Fraction.{Fraction}
use Rattle.res_model.specs.declared.table.Bounds.{Bounds}
use Rattle.i2s_pll.specs.declared.choice.I2s.{I2s}
use Rattle.i2s_pll.specs.Choices.{HasDividers, KeepsBounds}
use Rattle.i2s_pll.specs.Walk.{IsBest, IsNearer, IsNearest, IsSeen, Leads, place_of, weight}
use Rattle.i2s_pll.proofs.LeadLemmas.{leads_trans}

module _ (limits : Bounds) (input : Fraction) (rate least : ℕ) where
  -- ---- what was seen
  later : (a b : ℕ) → a ≤ b → (x : I2s) → IsSeen limits input least a x → IsSeen limits input least b x
  later a b l x h = record { dividers = h.dividers; bounds = h.bounds; low = h.low; below = omega (arith, h.below) }

  -- where no choice lies between two places, the same were seen
  pub passes : (a b : ℕ) → a ≤ b → ((x : I2s) → HasDividers x → KeepsBounds limits input x.n x.r → place_of x < b → place_of x < a) → (best : Option I2s)
      → IsBest input rate (IsSeen limits input least a) best → IsBest input rate (IsSeen limits input least b) best
  passes a b l none None h = λ y s. h y record { dividers = s.dividers; bounds = s.bounds; low = s.low; below = none y s.dividers s.bounds s.below }
  passes a b l none (Some x) h =
      (later a b l x h.0, λ y s. h.1 y record { dividers = s.dividers; bounds = s.bounds; low = s.low; below = none y s.dividers s.bounds s.below })

  module _ (n r : ℕ) (r_most : r ≤ 7) where
    -- a choice at the place of N and R has these
    n_at : (y : I2s) → HasDividers y → place_of y ≡ n * 8 + r → y.n ≡ n
    n_at y h e = let m = h.r.1 in omega (arith, e, r_most, m)

    r_at : (y : I2s) → HasDividers y → place_of y ≡ n * 8 + r → y.r ≡ r
    r_at y h e = let m = h.r.1 in omega (arith, e, r_most, m)

    bounds_at : (y : I2s) → HasDividers y → place_of y ≡ n * 8 + r → KeepsBounds limits input y.n y.r → KeepsBounds limits input n r
    bounds_at y h e b = subst (λ (k : ℕ). KeepsBounds limits input n k) (r_at y h e) (subst (λ (k : ℕ). KeepsBounds limits input k y.r) (n_at y h e) b)

    -- N and R that keep no limits
    pub kept : (best : Option I2s) → (KeepsBounds limits input n r → ⊥) → IsBest input rate (IsSeen limits input least (n * 8 + r)) best
        → IsBest input rate (IsSeen limits input least (n * 8 + (r + 1))) best
    kept best none h = passes (n * 8 + r) (n * 8 + (r + 1)) (omega arith) (λ x d b l. skip x d b l) best h
      where
        skip : (x : I2s) → HasDividers x → KeepsBounds limits input x.n x.r → place_of x < n * 8 + (r + 1) → place_of x < n * 8 + r
        skip x d b l = elim (cases_lt (place_of x) (n * 8 + r)) [
          | inl y ↦ y
          | inr m ↦ absurd (none (bounds_at x d (omega (arith, l, m)) b))
        ]

    -- N and R that keep them
    module _ (x : I2s) (near : IsNearest input rate n r x) (bounds : KeepsBounds limits input n r) (low : least ≤ n) where
      place_is : place_of x ≡ n * 8 + r
      place_is = let a = near.n_is in let b = near.r_is in omega (arith, a, b)

      seen : IsSeen limits input least (n * 8 + (r + 1)) x
      seen = record {
        dividers = near.dividers;
        bounds = subst (λ (k : ℕ). KeepsBounds limits input k x.r) (sym near.n_is) (subst (λ (k : ℕ). KeepsBounds limits input n k) (sym near.r_is) bounds);
        low = let a = near.n_is in omega (arith, a, low);
        below = omega (arith, place_is);
      }

      pub first : IsBest input rate (IsSeen limits input least (n * 8 + r)) None → IsBest input rate (IsSeen limits input least (n * 8 + (r + 1))) (Some x)
      first h = (seen, leads)
        where
          leads : (y : I2s) → IsSeen limits input least (n * 8 + (r + 1)) y → Leads input rate x y
          leads y s = elim (cases_lt (place_of y) (n * 8 + r)) [
            | inl l ↦ absurd (h y record { dividers = s.dividers; bounds = s.bounds; low = s.low; below = l })
            | inr m ↦
                let e : place_of y ≡ n * 8 + r = let b = s.below in omega (arith, b, m) in
                near.leads y (n_at y s.dividers e) (r_at y s.dividers e) s.dividers
          ]

      pub is_later : (best : I2s) → IsBest input rate (IsSeen limits input least (n * 8 + r)) (Some best) → weight best ≤ weight x
      is_later best h = let b = h.0.below in let d = h.0.dividers in omega (arith, b, place_is, d.div, d.odd)

      pub better : 0 < input.den → (best z : I2s) → IsBest input rate (IsSeen limits input least (n * 8 + r)) (Some best) → IsNearer input rate best x z
          → IsBest input rate (IsSeen limits input least (n * 8 + (r + 1))) (Some z)
      better some best z h nearer = (is_seen, leads)
        where
          is_seen : IsSeen limits input least (n * 8 + (r + 1)) z
          is_seen = elim nearer.one [
            | inl e ↦ subst (λ (k : I2s). IsSeen limits input least (n * 8 + (r + 1)) k) (sym e) (later (n * 8 + r) (n * 8 + (r + 1)) (omega arith) best h.0)
            | inr e ↦ subst (λ (k : I2s). IsSeen limits input least (n * 8 + (r + 1)) k) (sym e) seen
          ]

          leads : (y : I2s) → IsSeen limits input least (n * 8 + (r + 1)) y → Leads input rate z y
          leads y s = elim (cases_lt (place_of y) (n * 8 + r)) [
            | inl l ↦
                let k = h.1 y record { dividers = s.dividers; bounds = s.bounds; low = s.low; below = l } in
                leads_trans input rate some z best y is_seen.dividers h.0.dividers s.dividers nearer.first k
            | inr m ↦
                let e : place_of y ≡ n * 8 + r = let b = s.below in omega (arith, b, m) in
                let k = near.leads y (n_at y s.dividers e) (r_at y s.dividers e) s.dividers in
                leads_trans input rate some z x y is_seen.dividers near.dividers s.dividers nearer.second k
          ]

  -- the last R of an N
  pub row_done : (n : ℕ) (best : Option I2s) → IsBest input rate (IsSeen limits input least (n * 8 + 8)) best → IsBest input rate (IsSeen limits input least ((n + 1) * 8 + 2)) best
  row_done n best h = passes (n * 8 + 8) ((n + 1) * 8 + 2) (omega arith) (λ x d b l. within x d l) best h
    where
      within : (x : I2s) → HasDividers x → place_of x < (n + 1) * 8 + 2 → place_of x < n * 8 + 8
      within x d l = let a = d.r.0 in let b = d.r.1 in omega (arith, l, a, b)

  -- nothing lies before the first R of the least N
  pub none_yet : IsBest input rate (IsSeen limits input least (least * 8 + 2)) None
  none_yet = λ y s. empty y s.dividers s.low s.below
    where
      empty : (y : I2s) → HasDividers y → least ≤ y.n → place_of y < least * 8 + 2 → ⊥
      empty y d l b = let a = d.r.0 in absurd (omega (arith, a, l, b))
