-- A limit that refutes a box leaves no choice in it that meets the limit.
use Rattle.std.proofs.Common.{◌≡◌, ℕ, ◌<◌, Bool, true, false, ◌&&◌, ◌||◌, not, cond, nat_eq, Option, Some, None, List, [], ◌∷◌, ◌⊎◌, inl, inr, ⊎_elim, refl, sym, subst}
use Rattle.std.proofs.lemmas.Bool.Decides.{eqb_tells}
use Rattle.std.specs.List.{list_any, list_all}
use Rattle.res_base.specs.Fraction.{Fraction, IsAtMost, at_most, whole}
use Rattle.res_base.specs.Lists.{Member}
use Rattle.res_model.specs.declared.clock.ClockChoice.{ClockChoice}
use Rattle.res_model.specs.declared.clock.Facts.{Facts}
use Rattle.res_model.specs.declared.clock.Range.{Range}
use Rattle.res_model.specs.declared.clock.Src.{Src}
use Rattle.res_model.specs.declared.clock.Src.TheVariants.{Hsi, Hse, Pll}
use Rattle.res_model.specs.declared.table.TableParts.{TableParts}
use Rattle.res_model.specs.Clock.{is_hse, is_pll, pll_used, hse_used, vco_in_of, vco_of, clk48_of, sysclk_of, hclk_of, pclk1_of, pclk2_of}
use Rattle.res_model.specs.Limits.{where_so, are_within, is_equal, is_as_wished, is_fed, mhz_48, limits_of, is_met, meets_limit}
use Rattle.res_model.specs.ClockValues.{has_over, source_number}
use Rattle.res_model.specs.Power.{flash_rows, is_covered_by, speeds_at, scale_limit, is_within_max}
use Rattle.clock_limits.specs.Ranges.{Allowed, allowed, IsAllowed, IsWithin, sure_pll, sure_hse, sure_over, may_pll, overlaps, has, has_wish, vco_in_range, vco_range, clk48_range, sysclk_range, hclk_reach, hclk_range, pclk1_range, pclk2_range, limits_over, stands_alone}
use Rattle.clock_limits.specs.Fair.{IsFair}
use Rattle.clock_limits.specs.Laws.{RefutingIsBroken, RefutingAloneIsBroken}
use Rattle.clock_limits.proofs.FairLemmas.{box_is_fair}
use Rattle.clock_limits.proofs.FractionLemmas.{from_below, to_above, and_left, and_right, both}
use Rattle.clock_limits.proofs.RangeLemmas.{nodes_positive, vco_in_within, vco_within, clk48_within, sysclk_within, reach_within, hclk_within, pclk1_within, pclk2_within}

-- ---- tests of a node against tests of its range
within_overlaps : (bounds : ℕ × ℕ) (r : Range) (x : Fraction) → 0 < x.den → IsWithin r x → are_within bounds x ≡ true → overlaps bounds r ≡ true
within_overlaps bounds r x p w e =
    both (at_most (whole bounds.0) r.most) (at_most r.least (whole bounds.1))
    (to_above (whole bounds.0) x r.most p w.below (and_left (at_most (whole bounds.0) x) (at_most x (whole bounds.1)) e))
    (from_below r.least x (whole bounds.1) p w.above (and_right (at_most (whole bounds.0) x) (at_most x (whole bounds.1)) e))

equal_has : (r : Range) (x y : Fraction) → 0 < x.den → IsWithin r x → is_equal x y ≡ true → has r y ≡ true
equal_has r x y p w e =
    both (at_most r.least y) (at_most y r.most)
    (from_below r.least x y p w.above (and_left (at_most x y) (at_most y x) e))
    (to_above y x r.most p w.below (and_right (at_most x y) (at_most y x) e))

wished_has : (wish : Option ℕ) (r : Range) (x : Fraction) → 0 < x.den → IsWithin r x → is_as_wished wish x ≡ true → has_wish wish r ≡ true
wished_has None r x p w e = refl
wished_has (Some wish) r x p w e = equal_has r x (whole wish) p w e

covered_below : (rows : List ℕ) (a x : Fraction) → 0 < x.den → IsAtMost a x → list_any (is_covered_by x) rows ≡ true → list_any (is_covered_by a) rows ≡ true
covered_below [] a x p h e = e
covered_below (row ∷ rows) a x p h e = covered_in (is_covered_by x row) (is_covered_by a row) (list_any (is_covered_by x) rows) (list_any (is_covered_by a) rows) (from_below a x (whole row) p h) (covered_below rows a x p h) e
  where
    covered_in : (s u v w : Bool) → (s ≡ true → u ≡ true) → (v ≡ true → w ≡ true) → (s || v) ≡ true → (u || w) ≡ true
    covered_in true u v w f g e = rw (f refl) refl
    covered_in false true v w f g e = refl
    covered_in false false v w f g e = g e

max_below : (max : Option ℕ) (a x : Fraction) → 0 < x.den → IsAtMost a x → is_within_max x max ≡ true → is_within_max a max ≡ true
max_below None a x p h e = e
max_below (Some max) a x p h e = from_below a x (whole max) p h e

any_member : (test : ℕ → Bool) (vs : List ℕ) (v : ℕ) → Member v vs → test v ≡ true → list_any test vs ≡ true
any_member test [] v m e = absurd m
any_member test (u ∷ us) v m e =
    ⊎_elim (λ s. any_first (test u) (list_any test us) (subst (λ n. test n ≡ true) s e)) (λ k. any_later (test u) (list_any test us) (any_member test us v k e)) m
  where
    any_first : (s v : Bool) → s ≡ true → (s || v) ≡ true
    any_first true v e = refl
    any_first false v e = absurd (cc)

    any_later : (s v : Bool) → v ≡ true → (s || v) ≡ true
    any_later true v e = refl
    any_later false v e = e

all_member : (test : ℕ → Bool) (vs : List ℕ) (v : ℕ) → list_all test vs ≡ true → Member v vs → test v ≡ true
all_member test [] v e m = absurd m
all_member test (u ∷ us) v e m =
    ⊎_elim (λ s. subst (λ n. test n ≡ true) (sym s) (and_left (test u) (list_all test us) e)) (λ k. all_member test us v (and_right (test u) (list_all test us) e) k) m

-- ---- what is sure is so
or_cases : (x y : Bool) → (x || y) ≡ true → (x ≡ true) ⊎ (y ≡ true)
or_cases true y e = inl refl
or_cases false y e = inr e

or_left : (x y : Bool) → x ≡ true → (x || y) ≡ true
or_left true y e = refl
or_left false y e = absurd (cc)

or_right : (x y : Bool) → y ≡ true → (x || y) ≡ true
or_right true y e = refl
or_right false y e = e

is_pll_code : (s : Src) → nat_eq (source_number s) 2 ≡ true → is_pll s ≡ true
is_pll_code Hsi e = absurd (cc)
is_pll_code Hse e = absurd (cc)
is_pll_code Pll e = refl

is_hse_code : (s : Src) → nat_eq (source_number s) 1 ≡ true → is_hse s ≡ true
is_hse_code Hsi e = absurd (cc)
is_hse_code Hse e = refl
is_hse_code Pll e = absurd (cc)

pll_is_used : (f : Facts) (a : Allowed) (c : ClockChoice) → IsAllowed c a → sure_pll f a ≡ true → pll_used f c ≡ true
pll_is_used f a c is e =
    ⊎_elim
    (λ all. or_left (is_pll c.src) f.need48 (is_pll_code c.src (all_member (λ s. nat_eq s 2) a.src (source_number c.src) all is.src)))
    (λ need. or_right (is_pll c.src) f.need48 need)
    (or_cases (list_all (λ s. nat_eq s 2) a.src) f.need48 e)

hse_is_used : (f : Facts) (a : Allowed) (c : ClockChoice) → IsAllowed c a → sure_hse f a ≡ true → hse_used f c ≡ true
hse_is_used f a c is e =
    ⊎_elim
    (λ all. or_left (is_hse c.src) (pll_used f c && is_hse c.psrc) (is_hse_code c.src (all_member (λ s. nat_eq s 1) a.src (source_number c.src) all is.src)))
    (λ pll. or_right (is_hse c.src) (pll_used f c && is_hse c.psrc)
    (both (pll_used f c) (is_hse c.psrc)
    (pll_is_used f a c is (and_left (sure_pll f a) (list_all (λ s. nat_eq s 1) a.psrc) pll))
    (is_hse_code c.psrc (all_member (λ s. nat_eq s 1) a.psrc (source_number c.psrc) (and_right (sure_pll f a) (list_all (λ s. nat_eq s 1) a.psrc) pll) is.psrc))))
    (or_cases (list_all (λ s. nat_eq s 1) a.src) (sure_pll f a && list_all (λ s. nat_eq s 1) a.psrc) e)

pll_code : (s : Src) → is_pll s ≡ true → nat_eq (source_number s) 2 ≡ true
pll_code Hsi e = absurd (cc)
pll_code Hse e = absurd (cc)
pll_code Pll e = refl

-- a PLL that is used may be, and over-drive that is sure is on
pll_may : (f : Facts) (a : Allowed) (c : ClockChoice) → IsAllowed c a → pll_used f c ≡ true → may_pll f a ≡ true
pll_may f a c is e =
    ⊎_elim
    (λ src. or_left (list_any (λ s. nat_eq s 2) a.src) f.need48 (any_member (λ s. nat_eq s 2) a.src (source_number c.src) is.src (pll_code c.src src)))
    (λ need. or_right (list_any (λ s. nat_eq s 2) a.src) f.need48 need)
    (or_cases (is_pll c.src) f.need48 e)

over_is_on : (a : Allowed) (c : ClockChoice) → IsAllowed c a → sure_over a ≡ true → has_over c.vos ≡ true
over_is_on a c is e = all_member has_over a.vos c.vos e is.vos

where_sure : (sure used m r : Bool) → (sure ≡ true → used ≡ true) → (m ≡ true → r ≡ true) → where_so used m ≡ true → where_so sure r ≡ true
where_sure false used m r f g e = refl
where_sure true false m r f g e = let x = f refl in absurd (cc)
where_sure true true m r f g e = g e

-- ---- along the limits, in order
abbrev Along : (ℕ → Bool) → List (ℕ × Bool) → List (ℕ × Bool) → Type 0
Along only [] [] = Unit {0}
Along only [] (r ∷ rs) = ⊥
Along only (m ∷ ms) [] = ⊥
Along only (m ∷ ms) (r ∷ rs) = (m.0 ≡ r.0) × (only m.0 ≡ true → m.1 ≡ true → r.1 ≡ true) × Along only ms rs

equal_of : (n k : ℕ) → nat_eq n k ≡ true → n ≡ k
equal_of n k e = elim (eqb_tells n k) [ inl y ↦ y.1 | inr z ↦ absurd (cc) ]

met_here : (only : ℕ → Bool) (m r : ℕ × Bool) (k : ℕ) (x y : Bool) → m.0 ≡ r.0 → (only m.0 ≡ true → m.1 ≡ true → r.1 ≡ true) → only k ≡ true → (x ≡ true → y ≡ true) → cond (nat_eq m.0 k) m.1 x ≡ true → cond (nat_eq r.0 k) r.1 y ≡ true
met_here only m r k x y same imply is more e =
    subst (λ n. cond (nat_eq n k) r.1 y ≡ true) same (at_number only m.0 m.1 r.1 k x y (nat_eq m.0 k) refl imply is more e)
  where
    at_number : (only : ℕ → Bool) (n : ℕ) (s u : Bool) (k : ℕ) (x y t : Bool) → nat_eq n k ≡ t → (only n ≡ true → s ≡ true → u ≡ true) → only k ≡ true → (x ≡ true → y ≡ true) → cond (nat_eq n k) s x ≡ true → cond (nat_eq n k) u y ≡ true
    at_number only n s u k x y true t imply is more e =
        let at : n ≡ k = equal_of n k t in
        rw t (imply (subst (λ j. only j ≡ true) (sym at) is) (rw t at e))
    at_number only n s u k x y false t imply is more e = rw t (more (rw t at e))

met_along : (only : ℕ → Bool) (ms rs : List (ℕ × Bool)) (k : ℕ) → Along only ms rs → only k ≡ true → is_met k ms ≡ true → is_met k rs ≡ true
met_along only [] [] k along is e = refl
met_along only [] (r ∷ rs) k along is e = absurd along
met_along only (m ∷ ms) [] k along is e = refl
met_along only (m ∷ ms) (r ∷ rs) k along is e = met_here only m r k (is_met k ms) (is_met k rs) along.0 along.1 is (met_along only ms rs k along.2 is) e

-- what is used of a wish: it is met, or no limit that rests on it is asked for
along : (only : ℕ → Bool) (t : TableParts) (f : Facts) (a : Allowed) (c : ClockChoice) → IsFair a → IsAllowed c a → ((k : ℕ) → only k ≡ true → (stands_alone k ≡ true) ⊎ (is_as_wished f.hclk (hclk_of f c) ≡ true)) → Along only (limits_of t f c) (limits_over t f a)
unfolding limits_of limits_over
along only t f a c fair is wish =
    let p = nodes_positive f a c fair is in
    let wished : (k : ℕ) → stands_alone k ≡ false → only k ≡ true → is_as_wished f.hclk (hclk_of f c) ≡ true =
    λ k rests o. ⊎_elim (λ alone. absurd (cc)) (λ w. w) (wish k o) in (
      refl,
      λ o e. where_sure (sure_hse f a) (hse_used f c) (is_fed t f) (is_fed t f) (hse_is_used f a c is) (λ x. x) e,
      (
        refl,
        λ o e. where_sure (sure_pll f a) (pll_used f c) (are_within t.limits.vco_in (vco_in_of f c)) (overlaps t.limits.vco_in (vco_in_range f a)) (pll_is_used f a c is) (within_overlaps t.limits.vco_in (vco_in_range f a) (vco_in_of f c) p.vco_in (vco_in_within f a c is)) e,
        (
          refl,
          λ o e. where_sure (sure_pll f a) (pll_used f c) (are_within t.limits.vco (vco_of f c)) (overlaps t.limits.vco (vco_range f a)) (pll_is_used f a c is) (within_overlaps t.limits.vco (vco_range f a) (vco_of f c) p.vco (vco_within f a c is)) e,
          (
            refl,
            λ o e. any_member (λ step. at_most (sysclk_range f a).least (whole (speeds_at t step).sysclk)) a.vos c.vos is.vos (from_below (sysclk_range f a).least (sysclk_of f c) (whole (speeds_at t c.vos).sysclk) p.sysclk (sysclk_within f a c fair is).above e),
            (
              refl,
              λ o e. any_member (λ vos. is_within_max (hclk_range f a).least (scale_limit t vos)) a.vos c.vos is.vos (max_below (scale_limit t c.vos) (hclk_range f a).least (hclk_of f c) p.hclk (hclk_within f a c fair is (wished 7 refl o)).above e),
              (
                refl,
                λ o e. any_member (λ step. at_most (pclk1_range f a).least (whole (speeds_at t step).pclk1)) a.vos c.vos is.vos (from_below (pclk1_range f a).least (pclk1_of f c) (whole (speeds_at t c.vos).pclk1) p.pclk1 (pclk1_within f a c fair is (wished 8 refl o)).above e),
                (
                  refl,
                  λ o e. any_member (λ step. at_most (pclk2_range f a).least (whole (speeds_at t step).pclk2)) a.vos c.vos is.vos (from_below (pclk2_range f a).least (pclk2_of f c) (whole (speeds_at t c.vos).pclk2) p.pclk2 (pclk2_within f a c fair is (wished 9 refl o)).above e),
                  (
                    refl,
                    λ o e. where_sure f.exact48 f.exact48 (is_equal (clk48_of f c) (whole mhz_48)) (has (clk48_range f a) (whole mhz_48)) (λ x. x) (equal_has (clk48_range f a) (clk48_of f c) (whole mhz_48) p.clk48 (clk48_within f a c is)) e,
                    (
                      refl,
                      λ o e. where_sure f.most48 f.most48 (at_most (clk48_of f c) (whole mhz_48)) (at_most (clk48_range f a).least (whole mhz_48)) (λ x. x) (from_below (clk48_range f a).least (clk48_of f c) (whole mhz_48) p.clk48 (clk48_within f a c is).above) e,
                      (
                        refl,
                        λ o e. to_above (whole f.floor) (hclk_of f c) (hclk_range f a).most p.hclk (hclk_within f a c fair is (wished 12 refl o)).below e,
                        (
                          refl,
                          λ o e. covered_below (flash_rows t f.vdd) (hclk_range f a).least (hclk_of f c) p.hclk (hclk_within f a c fair is (wished 13 refl o)).above e,
                          (
                            refl,
                            λ o e. wished_has f.hclk (hclk_reach f a) (hclk_of f c) p.hclk (reach_within f a c fair is) e,
                            (
                              refl,
                              λ o e. wished_has f.pclk1 (pclk1_range f a) (pclk1_of f c) p.pclk1 (pclk1_within f a c fair is (wished 15 refl o)) e,
                              (
                                refl,
                                λ o e. wished_has f.pclk2 (pclk2_range f a) (pclk2_of f c) p.pclk2 (pclk2_within f a c fair is (wished 16 refl o)) e,
                                (refl, λ o e. where_sure (sure_over a) (has_over c.vos) (pll_used f c) (may_pll f a) (over_is_on a c is) (pll_may f a c is) e, tt),
                              ),
                            ),
                          ),
                        ),
                      ),
                    ),
                  ),
                ),
              ),
            ),
          ),
        ),
      ),
    )

fails : (m r : Bool) → (m ≡ true → r ≡ true) → not r ≡ true → m ≡ false
fails true true f e = absurd (cc)
fails true false f e = let x = f refl in absurd (cc)
fails false r f e = refl

wish_met : (t : TableParts) (f : Facts) (c : ClockChoice) → meets_limit t f c 14 ≡ true → is_as_wished f.hclk (hclk_of f c) ≡ true
unfolding limits_of
wish_met t f c e = e

pub refuting_is_broken : RefutingIsBroken
refuting_is_broken t f values b k in_range is_box refuted c is met =
    fails (meets_limit t f c k) (is_met k (limits_over t f (allowed values b)))
    (met_along (λ j. true) (limits_of t f c) (limits_over t f (allowed values b)) k
    (along (λ j. true) t f (allowed values b) c (box_is_fair values b is_box in_range) is (λ j o. inr (wish_met t f c met)))
    refl)
    refuted

no_wish : (f : Facts) (x : Fraction) → f.hclk ≡ None → is_as_wished f.hclk x ≡ true
no_wish f x e = subst (λ (w : Option ℕ). is_as_wished w x ≡ true) (sym e) refl

pub refuting_alone_is_broken : RefutingAloneIsBroken
refuting_alone_is_broken t f values b k in_range is_box refuted why c is =
    let fair = box_is_fair values b is_box in_range in
    let a = allowed values b in
    fails (meets_limit t f c k) (is_met k (limits_over t f a))
    (⊎_elim
    (λ alone. met_along stands_alone (limits_of t f c) (limits_over t f a) k (along stands_alone t f a c fair is (λ j o. inl o)) alone)
    (λ none. met_along (λ j. true) (limits_of t f c) (limits_over t f a) k (along (λ j. true) t f a c fair is (λ j o. inr (no_wish f (hclk_of f c) none))) refl)
    why)
    refuted
