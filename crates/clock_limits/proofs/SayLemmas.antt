-- Each test tells whether its sentence holds.
use Rattle.std.proofs.Common.{◌≡◌, ℕ, zero, suc, ◌<◌, ◌≤◌, Bool, true, false, ◌&&◌, ◌||◌, leb, Option, Some, None, List, [], ◌∷◌, length, get_or, inl, inr, refl, arith}
use Rattle.std.specs.Prelude.{◌↔◌, IsTrue}
use Rattle.std.specs.List.{list_any}
use Rattle.std.proofs.lemmas.Bool.Decides.{leb_tells}
use Rattle.res_base.specs.Fraction.{Fraction, IsAtMost, Equals, at_most, whole}
use Rattle.res_model.specs.declared.clock.ClockChoice.{ClockChoice}
use Rattle.res_model.specs.declared.clock.Facts.{Facts}
use Rattle.res_model.specs.declared.table.TableParts.{TableParts}
use Rattle.res_model.specs.Clock.{IsBetween, hse_used, pll_used, vco_in_of, vco_of, clk48_of, sysclk_of, hclk_of, pclk1_of, pclk2_of}
use Rattle.res_model.specs.Limits.{TestsTell, hse_bounds, AreWithin, IsWithinMax, IsAsWished, where_so, are_within, is_equal, is_as_wished, is_fed, mhz_48, limits_of}
use Rattle.res_model.specs.ClockValues.{has_over}
use Rattle.res_model.specs.Power.{flash_rows, is_covered_by, is_covered, RowCovers, speeds_at, scale_limit, is_within_max}
use Rattle.clock_limits.proofs.FractionLemmas.{test_of, fact_of, and_left, and_right, both}

at_most_says : (x y : Fraction) → IsTrue (at_most x y) ↔ IsAtMost x y
at_most_says x y = (λ e. fact_of x y e, λ h. test_of x y h)

where_says : {P : Type 0} (condition test : Bool) → IsTrue test ↔ P → IsTrue (where_so condition test) ↔ (IsTrue condition → P)
where_says true test s = (λ e i. s.0 e, λ h. s.1 (h refl))
where_says false test s = (λ e i. absurd (cc), λ h. refl)

within_says : (bounds : ℕ × ℕ) (x : Fraction) → IsTrue (are_within bounds x) ↔ AreWithin bounds x
within_says bounds x = (
  λ e. (fact_of (whole bounds.0) x (and_left (at_most (whole bounds.0) x) (at_most x (whole bounds.1)) e), fact_of x (whole bounds.1) (and_right (at_most (whole bounds.0) x) (at_most x (whole bounds.1)) e)),
  λ h. both (at_most (whole bounds.0) x) (at_most x (whole bounds.1)) (test_of (whole bounds.0) x h.0) (test_of x (whole bounds.1) h.1),
)

equal_says : (x y : Fraction) → IsTrue (is_equal x y) ↔ Equals x y
equal_says x y = (
  λ e. let h = fact_of x y (and_left (at_most x y) (at_most y x) e) in let k = fact_of y x (and_right (at_most x y) (at_most y x) e) in omega (arith, h, k),
  λ h. both (at_most x y) (at_most y x) (test_of x y (omega (arith, h))) (test_of y x (omega (arith, h))),
)

wished_says : (wish : Option ℕ) (x : Fraction) → IsTrue (is_as_wished wish x) ↔ IsAsWished wish x
wished_says None x = (λ e. tt, λ h. refl)
wished_says (Some wish) x = equal_says x (whole wish)

pub max_says : (max : Option ℕ) (x : Fraction) → IsTrue (is_within_max x max) ↔ IsWithinMax x max
max_says None x = (λ e. absurd (cc), λ h. absurd h)
max_says (Some max) x = at_most_says x (whole max)

leb_true : (a b : ℕ) → leb a b ≡ true → a ≤ b
leb_true a b e = elim (leb_tells a b) [ inl t ↦ t.1 | inr n ↦ absurd (cc) ]

leb_of : (a b : ℕ) → a ≤ b → leb a b ≡ true
leb_of a b h = elim (leb_tells a b) [ inl t ↦ t.0 | inr n ↦ absurd (omega (arith, h, n.1)) ]

fed_says : (t : TableParts) (f : Facts) → IsTrue (is_fed t f) ↔ (IsTrue f.osc_in × IsBetween (hse_bounds t f).0 (hse_bounds t f).1 f.hse_hz)
fed_says t f =
    let low = (hse_bounds t f).0 in
    let high = (hse_bounds t f).1 in
    let least = leb low f.hse_hz in
    let most = leb f.hse_hz high in (
      λ e. (and_left f.osc_in (least && most) e, (leb_true low f.hse_hz (and_left least most (and_right f.osc_in (least && most) e)), leb_true f.hse_hz high (and_right least most (and_right f.osc_in (least && most) e)))),
      λ h. both f.osc_in (least && most) h.0 (both least most (leb_of low f.hse_hz h.1.0) (leb_of f.hse_hz high h.1.1)),
    )

row_of : (x : Fraction) (rows : List ℕ) → list_any (is_covered_by x) rows ≡ true → (w : ℕ) × (w < length rows) × IsAtMost x (whole (get_or rows w 0))
row_of x [] e = absurd (cc)
row_of x (row ∷ rows) e = row_in x row rows (at_most x (whole row)) refl (row_of x rows) e
  where
    row_in : (x : Fraction) (row : ℕ) (rows : List ℕ) (b : Bool) → at_most x (whole row) ≡ b → (list_any (is_covered_by x) rows ≡ true → (w : ℕ) × (w < length rows) × IsAtMost x (whole (get_or rows w 0))) → (b || list_any (is_covered_by x) rows) ≡ true → (w : ℕ) × (w < length (row ∷ rows)) × IsAtMost x (whole (get_or (row ∷ rows) w 0))
    row_in x row rows true is more e = (0, omega arith, fact_of x (whole row) is)
    row_in x row rows false is more e = let r = more e in (suc r.0, omega (arith, r.1), r.2)

row_at : (x : Fraction) (rows : List ℕ) (w : ℕ) → w < length rows → IsAtMost x (whole (get_or rows w 0)) → list_any (is_covered_by x) rows ≡ true
row_at x [] w inside h = absurd (omega arith)
row_at x (row ∷ rows) zero inside h = let e = test_of x (whole row) h in rw e refl
row_at x (row ∷ rows) (suc w) inside h = or_later (at_most x (whole row)) (list_any (is_covered_by x) rows) (row_at x rows w (omega arith) h)
  where
    or_later : (s v : Bool) → v ≡ true → (s || v) ≡ true
    or_later true v e = refl
    or_later false v e = e

pub covered_says : (t : TableParts) (vdd : ℕ) (x : Fraction) → IsTrue (is_covered t vdd x) ↔ ((w : ℕ) × RowCovers t vdd w x)
covered_says t vdd x = (
  λ e. let r = row_of x (flash_rows t vdd) e in (r.0, (r.1, r.2)),
  λ h. row_at x (flash_rows t vdd) h.0 h.1.0 h.1.1,
)

pub tests_tell : (t : TableParts) (f : Facts) (c : ClockChoice) → TestsTell t f c
unfolding limits_of
tests_tell t f c = record {
  hse = where_says (hse_used f c) (is_fed t f) (fed_says t f);
  vco_in = where_says (pll_used f c) (are_within t.limits.vco_in (vco_in_of f c)) (within_says t.limits.vco_in (vco_in_of f c));
  vco = where_says (pll_used f c) (are_within t.limits.vco (vco_of f c)) (within_says t.limits.vco (vco_of f c));
  sysclk = at_most_says (sysclk_of f c) (whole (speeds_at t c.vos).sysclk);
  scale = max_says (scale_limit t c.vos) (hclk_of f c);
  pclk1 = at_most_says (pclk1_of f c) (whole (speeds_at t c.vos).pclk1);
  pclk2 = at_most_says (pclk2_of f c) (whole (speeds_at t c.vos).pclk2);
  exact48 = where_says f.exact48 (is_equal (clk48_of f c) (whole mhz_48)) (equal_says (clk48_of f c) (whole mhz_48));
  most48 = where_says f.most48 (at_most (clk48_of f c) (whole mhz_48)) (at_most_says (clk48_of f c) (whole mhz_48));
  floor = at_most_says (whole f.floor) (hclk_of f c);
  covered = covered_says t f.vdd (hclk_of f c);
  hclk_wish = wished_says f.hclk (hclk_of f c);
  pclk1_wish = wished_says f.pclk1 (pclk1_of f c);
  pclk2_wish = wished_says f.pclk2 (pclk2_of f c);
  over = where_says (has_over c.vos) (pll_used f c) (λ e. e, λ h. h);
}
