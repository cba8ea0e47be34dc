-- The limits of a choice by its nodes.
use Rattle.std.proofs.Common.{◌≡◌, ℕ, Bool, true, false, ◌||◌, List, [], ◌∷◌, refl, sym, subst}
use Rattle.res_base.specs.Fraction.{Fraction, at_most, whole}
use Rattle.res_model.specs.declared.clock.ClockChoice.{ClockChoice}
use Rattle.res_model.specs.declared.clock.Facts.{Facts}
use Rattle.res_model.specs.declared.clock.Nodes.{Nodes}
use Rattle.res_model.specs.declared.table.TableParts.{TableParts}
use Rattle.res_model.specs.Clock.{AreFacts, is_pll, hse_used, pll_used, where_used, nodes_of, vco_in_of, vco_of, clk48_of}
use Rattle.res_model.specs.Limits.{where_so, are_within, is_equal, is_as_wished, is_fed, mhz_48, limits_of}
use Rattle.res_model.specs.ClockValues.{has_over}
use Rattle.res_model.specs.Power.{is_covered, speeds_at, scale_limit, is_within_max}
use Rattle.clock_limits.specs.Numbered.{within_where_there, exactly_where_there, most_where_there}

within_is : (bounds : ℕ × ℕ) (used : Bool) (x : Fraction) → within_where_there bounds (where_used used x) ≡ where_so used (are_within bounds x)
within_is bounds true x = refl
within_is bounds false x = refl

exactly_is : (pll need exact most : Bool) (x : Fraction) → need ≡ (exact || most) → where_so exact (exactly_where_there (where_used (pll || need) x)) ≡ where_so exact (is_equal x (whole mhz_48))
exactly_is pll need false most x e = refl
exactly_is true need true most x e = refl
exactly_is false need true most x e = subst (λ (n : Bool). where_so true (exactly_where_there (where_used n x)) ≡ where_so true (is_equal x (whole mhz_48))) (sym e) refl

most_is : (pll need exact most : Bool) (x : Fraction) → need ≡ (exact || most) → where_so most (most_where_there (where_used (pll || need) x)) ≡ where_so most (at_most x (whole mhz_48))
most_is pll need exact false x e = refl
most_is true need exact true x e = refl
most_is false need true true x e = subst (λ (n : Bool). where_so true (most_where_there (where_used n x)) ≡ where_so true (at_most x (whole mhz_48))) (sym e) refl
most_is false need false true x e = subst (λ (n : Bool). where_so true (most_where_there (where_used n x)) ≡ where_so true (at_most x (whole mhz_48))) (sym e) refl

-- the limits, with the nodes of the PLL that may be absent
abbrev pub by_nodes : TableParts → Facts → ClockChoice → Nodes → List (ℕ × Bool)
by_nodes t f c n =
    (3, where_so (hse_used f c) (is_fed t f))
    ∷ (4, within_where_there t.limits.vco_in n.vco_in)
    ∷ (5, within_where_there t.limits.vco n.vco)
    ∷ (6, at_most n.sysclk (whole (speeds_at t c.vos).sysclk))
    ∷ (7, is_within_max n.hclk (scale_limit t c.vos))
    ∷ (8, at_most n.pclk1 (whole (speeds_at t c.vos).pclk1))
    ∷ (9, at_most n.pclk2 (whole (speeds_at t c.vos).pclk2))
    ∷ (10, where_so f.exact48 (exactly_where_there n.clk48))
    ∷ (11, where_so f.most48 (most_where_there n.clk48))
    ∷ (12, at_most (whole f.floor) n.hclk)
    ∷ (13, is_covered t f.vdd n.hclk)
    ∷ (14, is_as_wished f.hclk n.hclk)
    ∷ (15, is_as_wished f.pclk1 n.pclk1)
    ∷ (16, is_as_wished f.pclk2 n.pclk2)
    ∷ (17, where_so (has_over c.vos) (pll_used f c))
    ∷ []

pub by_nodes_of : (t : TableParts) (f : Facts) (c : ClockChoice) → AreFacts f → by_nodes t f c (nodes_of f c) ≡ limits_of t f c
unfolding nodes_of limits_of
by_nodes_of t f c facts =
    cc (within_is t.limits.vco_in (pll_used f c) (vco_in_of f c), within_is t.limits.vco (pll_used f c) (vco_of f c), exactly_is (is_pll c.src) f.need48 f.exact48 f.most48 (clk48_of f c) facts.need48, most_is (is_pll c.src) f.need48 f.exact48 f.most48 (clk48_of f c) facts.need48)

pub limits_by_nodes : (t : TableParts) (f : Facts) (c : ClockChoice) (n : Nodes) → AreFacts f → n ≡ nodes_of f c → by_nodes t f c n ≡ limits_of t f c
limits_by_nodes t f c n facts e = subst (λ (m : Nodes). by_nodes t f c m ≡ limits_of t f c) (sym e) (by_nodes_of t f c facts)
