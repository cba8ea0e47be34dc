-- What a wish for HCLK leaves of the range of HCLK.
use Rattle.std.proofs.Common.{◌≡◌, ℕ, ◌*◌, ◌<◌, Bool, true, false, ◌||◌, not, cond, ◌⊎◌, inl, inr, Option, Some, None, List, [], ◌∷◌, refl, sym, subst, arith}
use Rattle.std.specs.List.{list_any}
use Rattle.res_base.specs.Fraction.{Fraction, at_most, whole, over}
use Rattle.res_base.specs.Lists.{Member}
use Rattle.res_model.specs.declared.clock.Facts.{Facts}
use Rattle.res_model.specs.declared.clock.Range.{Range}
use Rattle.res_model.specs.declared.table.TableParts.{TableParts}
use Rattle.res_model.specs.Limits.{IsWithinMax, is_met}
use Rattle.res_model.specs.Power.{RowCovers, is_covered, speeds_at, scale_limit, is_within_max}
use Rattle.clock_limits.specs.Laws.{IsRefutedOf, WishOutOfReachRefutes, WishNarrows}
use Rattle.clock_limits.specs.Ranges.{Allowed, allowed, IsWithin, some_pclk1, some_pclk2, exactly, narrowed, has, has_wish, divided, least_of, greatest_of, hclk_reach, hclk_range, limits_over}
use Rattle.clock_limits.proofs.FractionLemmas.{fact_of, and_left, and_right}
use Rattle.clock_limits.proofs.SayLemmas.{max_says, covered_says}

not_true : (b : Bool) → (b ≡ true → ⊥) → b ≡ false
not_true true h = absurd (h refl)
not_true false h = refl

refuted : (b : Bool) → (b ≡ true → ⊥) → not b ≡ true
refuted b h = rw (not_true b h) refl

met_of : (b : Bool) → not b ≡ false → b ≡ true
met_of true e = refl
met_of false e = absurd cc

cond_true : {X : Type 0} (b : Bool) (x y : X) → b ≡ true → cond b x y ≡ x
cond_true true x y e = refl
cond_true false x y e = absurd cc

-- ---- the range of HCLK
within_of : (r : Range) (x : Fraction) → has r x ≡ true → IsWithin r x
within_of r x e = record {
  above = fact_of r.least x (and_left (at_most r.least x) (at_most x r.most) e);
  below = fact_of x r.most (and_right (at_most r.least x) (at_most x r.most) e);
}

had : (wanted : Option ℕ) (r : Range) (wish : ℕ) → wanted ≡ Some wish → has_wish wanted r ≡ true → has r (whole wish) ≡ true
had None r wish e h = absurd cc
had (Some w) r wish e h = let same : w ≡ wish = cc in subst (λ (n : ℕ). has r (whole n) ≡ true) same h

narrows : (wanted : Option ℕ) (r : Range) (wish : ℕ) → wanted ≡ Some wish → has_wish wanted r ≡ true → narrowed wanted r ≡ exactly (whole wish)
narrows None r wish e h = absurd cc
narrows (Some w) r wish e h = let same : w ≡ wish = cc in subst (λ (n : ℕ). narrowed (Some w) r ≡ exactly (whole n)) same (cond_true (has r (whole w)) (exactly (whole w)) r h)

-- ---- tests of the wish
none_passes : (test : ℕ → Bool) (vs : List ℕ) → ((v : ℕ) → Member v vs → test v ≡ true → ⊥) → list_any test vs ≡ true → ⊥
none_passes test [] h e = cc
none_passes test (u ∷ us) h e = case (test u) refl e (none_passes test us (λ v m. h v (inr m)))
  where
    case : (b : Bool) → test u ≡ b → b || list_any test us ≡ true → (list_any test us ≡ true → ⊥) → ⊥
    case true is e rest = h u (inl refl) is
    case false is e rest = rest e

no_scale : (t : TableParts) (wish : ℕ) (r : Range) (vs : List ℕ) → r ≡ exactly (whole wish) → ((v : ℕ) → Member v vs → ¬ IsWithinMax (whole wish) (scale_limit t v)) → list_any (λ v. is_within_max r.least (scale_limit t v)) vs ≡ true → ⊥
no_scale t wish r vs same h =
    subst (λ (s : Range). list_any (λ v. is_within_max s.least (scale_limit t v)) vs ≡ true → ⊥) (sym same)
    (none_passes (λ v. is_within_max (whole wish) (scale_limit t v)) vs (λ v m e. h v m ((max_says (scale_limit t v) (whole wish)).0 e)))

no_row : (t : TableParts) (vdd wish : ℕ) (r : Range) → r ≡ exactly (whole wish) → ((w : ℕ) → ¬ RowCovers t vdd w (whole wish)) → is_covered t vdd r.least ≡ true → ⊥
no_row t vdd wish r same h =
    subst (λ (s : Range). is_covered t vdd s.least ≡ true → ⊥) (sym same)
    (λ e. let covers = (covered_says t vdd (whole wish)).0 e in h covers.0 covers.1)

too_slow : (floor wish : ℕ) (r : Range) → r ≡ exactly (whole wish) → wish < floor → at_most (whole floor) r.most ≡ true → ⊥
too_slow floor wish r same h =
    subst (λ (s : Range). at_most (whole floor) s.most ≡ true → ⊥) (sym same) (λ e. omega (arith, h, fact_of (whole floor) (whole wish) e))

too_fast : (most wish : ℕ) (ds : List ℕ) (r : Range) → r ≡ exactly (whole wish) → most * greatest_of ds < wish → at_most (divided r ds).least (whole most) ≡ true → ⊥
too_fast most wish ds r same h =
    subst (λ (s : Range). at_most (divided s ds).least (whole most) ≡ true → ⊥) (sym same)
    (λ e. omega (arith, h, fact_of (over (whole wish) (greatest_of ds)) (whole most) e))

not_as_wished : (w wish : ℕ) (ds : List ℕ) (r : Range) → r ≡ exactly (whole wish) → (w * greatest_of ds < wish) ⊎ (wish < w * least_of ds) → has (divided r ds) (whole w) ≡ true → ⊥
not_as_wished w wish ds r same h =
    subst (λ (s : Range). has (divided s ds) (whole w) ≡ true → ⊥) (sym same)
    (λ e. let is = within_of (divided (exactly (whole wish)) ds) (whole w) e in elim h [ inl y ↦ omega (arith, y, is.above) | inr y ↦ omega (arith, y, is.below) ])

pub out_of_reach : WishOutOfReachRefutes
unfolding limits_over
out_of_reach t f values b wish is far =
    let r = hclk_reach f (allowed values b) in
    refuted (has_wish f.hclk r) (λ e. far (within_of r (whole wish) (had f.hclk r wish is e)))

judged : (t : TableParts) (f : Facts) (a : Allowed) (wish : ℕ) → f.hclk ≡ Some wish → is_met 14 (limits_over t f a) ≡ true → IsRefutedOf t f a wish (λ k. not (is_met k (limits_over t f a)))
unfolding limits_over
judged t f a wish is met =
    let r = hclk_range f a in
    let same : r ≡ exactly (whole wish) = narrows f.hclk (hclk_reach f a) wish is met in
    record {
      scale = λ h. refuted (list_any (λ v. is_within_max r.least (scale_limit t v)) a.vos) (no_scale t wish r a.vos same h);
      pclk1 = λ h. refuted (some_pclk1 t (divided r a.ppre1).least a.vos) (none_passes (λ v. at_most (divided r a.ppre1).least (whole (speeds_at t v).pclk1)) a.vos (λ v m. too_fast (speeds_at t v).pclk1 wish a.ppre1 r same (h v m)));
      pclk2 = λ h. refuted (some_pclk2 t (divided r a.ppre2).least a.vos) (none_passes (λ v. at_most (divided r a.ppre2).least (whole (speeds_at t v).pclk2)) a.vos (λ v m. too_fast (speeds_at t v).pclk2 wish a.ppre2 r same (h v m)));
      floor = λ h. refuted (at_most (whole f.floor) r.most) (too_slow f.floor wish r same h);
      row = λ h. refuted (is_covered t f.vdd r.least) (no_row t f.vdd wish r same h);
      wish1 = λ w e h. refuted (has_wish f.pclk1 (divided r a.ppre1)) (λ x. not_as_wished w wish a.ppre1 r same h (had f.pclk1 (divided r a.ppre1) w e x));
      wish2 = λ w e h. refuted (has_wish f.pclk2 (divided r a.ppre2)) (λ x. not_as_wished w wish a.ppre2 r same h (had f.pclk2 (divided r a.ppre2) w e x));
    }

pub wish_narrows : WishNarrows
wish_narrows t f values b wish is e = judged t f (allowed values b) wish is (met_of (is_met 14 (limits_over t f (allowed values b))) e)
