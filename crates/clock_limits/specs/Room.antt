-- Internal: the room that ranges leave for each limit.
use Rattle.std.specs.Prelude.{ℕ, Bool, List, [], ◌∷◌}
use Rattle.std.specs.List.{list_any}
use Rattle.res_base.specs.Fraction.{at_most, whole}
use Rattle.res_model.specs.declared.clock.Facts.{Facts}
use Rattle.res_model.specs.declared.clock.Range.{Range}
use Rattle.res_model.specs.declared.table.TableParts.{TableParts}
use Rattle.res_model.specs.Limits.{where_so, is_fed, mhz_48}
use Rattle.res_model.specs.Power.{is_covered, scale_limit, is_within_max}
use Rattle.clock_limits.specs.Ranges.{Allowed, sure_pll, sure_hse, sure_over, may_pll, some_sysclk, some_pclk1, some_pclk2, overlaps, has, has_wish}
use Rattle.clock_limits.specs.declared.ranges.NodeRanges.{NodeRanges}

-- the limits over ranges that are given
abbrev pub room_over : TableParts → Facts → Allowed → Range → Range → Range → Range → Range → Range → Range → Range → List (ℕ × Bool)
room_over t f a vco_in vco clk48 sysclk reach hclk pclk1 pclk2 =
    (3, where_so (sure_hse f a) (is_fed t f))
    ∷ (4, where_so (sure_pll f a) (overlaps t.limits.vco_in vco_in))
    ∷ (5, where_so (sure_pll f a) (overlaps t.limits.vco vco))
    ∷ (6, some_sysclk t sysclk.least a.vos)
    ∷ (7, list_any (λ vos. is_within_max hclk.least (scale_limit t vos)) a.vos)
    ∷ (8, some_pclk1 t pclk1.least a.vos)
    ∷ (9, some_pclk2 t pclk2.least a.vos)
    ∷ (10, where_so f.exact48 (has clk48 (whole mhz_48)))
    ∷ (11, where_so f.most48 (at_most clk48.least (whole mhz_48)))
    ∷ (12, at_most (whole f.floor) hclk.most)
    ∷ (13, is_covered t f.vdd hclk.least)
    ∷ (14, has_wish f.hclk reach)
    ∷ (15, has_wish f.pclk1 pclk1)
    ∷ (16, has_wish f.pclk2 pclk2)
    ∷ (17, where_so (sure_over a) (may_pll f a))
    ∷ []

abbrev pub room_by : TableParts → Facts → Allowed → NodeRanges → List (ℕ × Bool)
room_by t f a x = room_over t f a x.vco_in x.vco x.clk48 x.sysclk x.hclk_reach x.hclk x.pclk1 x.pclk2
