-- The limits of the clock tree, each with its number: a sentence about a choice, and the same as a test.
-- Fractions compare by cross multiplication. Limits 1 and 2, on pins, stand elsewhere.
use Rattle.std.specs.Prelude.{ℕ, ◌==◌, ◌&&◌, ◌||◌, ◌↔◌, Bool, true, not, nat_le, if◌then◌else◌, IsTrue, List, [], ◌∷◌, Option, Some, None}
use Rattle.res_base.specs.Fraction.{Fraction, IsAtMost, Equals, at_most, whole}
use Rattle.res_model.specs.Clock.{IsBetween, hse_used, pll_used, vco_in_of, vco_of, clk48_of, sysclk_of, hclk_of, pclk1_of, pclk2_of}
use Rattle.res_model.specs.ClockValues.{has_over}
use Rattle.res_model.specs.LimitNumbers.{limit_number}
use Rattle.res_model.specs.Power.{RowCovers, is_covered, speeds_at, scale_limit, is_within_max}
use Rattle.res_model.specs.declared.clock.ClockChoice.{ClockChoice}
use Rattle.res_model.specs.declared.clock.Facts.{Facts}
use Rattle.res_model.specs.declared.limit.Limit.TheVariants as name
use Rattle.res_model.specs.declared.table.TableParts.{TableParts}

-- what the 48 MHz output must be
abbrev pub mhz_48 : ℕ
mhz_48 = 48000000

-- ---- the sentences

-- the frequencies that the HSE may have: of a clock that bypasses the oscillator, or of a crystal
abbrev pub hse_bounds : TableParts → Facts → ℕ × ℕ
hse_bounds t f = if f.bypass then t.limits.bypass else t.limits.crystal

abbrev pub AreWithin : ℕ × ℕ → Fraction → Type 0
AreWithin bounds x = IsAtMost (whole bounds.0) x × IsAtMost x (whole bounds.1)

-- 3: where the HSE is used, its input is taken and its frequency is within its bounds
abbrev pub HseIsFed : TableParts → Facts → ClockChoice → Type 0
HseIsFed t f c = IsTrue (hse_used f c) → IsTrue f.osc_in × IsBetween (hse_bounds t f).0 (hse_bounds t f).1 f.hse_hz

-- 4 and 5: where the PLL is used, the VCO's input and the VCO are within their bounds
abbrev pub VcoInIsWithin : TableParts → Facts → ClockChoice → Type 0
VcoInIsWithin t f c = IsTrue (pll_used f c) → AreWithin t.limits.vco_in (vco_in_of f c)

abbrev pub VcoIsWithin : TableParts → Facts → ClockChoice → Type 0
VcoIsWithin t f c = IsTrue (pll_used f c) → AreWithin t.limits.vco (vco_of f c)

-- 6: SYSCLK is at most the limit of the power step
abbrev pub SysclkIsWithin : TableParts → Facts → ClockChoice → Type 0
SysclkIsWithin t f c = IsAtMost (sysclk_of f c) (whole (speeds_at t c.vos).sysclk)

abbrev pub IsWithinMax : Fraction → Option ℕ → Type 0
IsWithinMax hclk None = ⊥
IsWithinMax hclk (Some max) = IsAtMost hclk (whole max)

-- 7: HCLK is at most the limit of the power step
abbrev pub HclkIsWithinScale : TableParts → Facts → ClockChoice → Type 0
HclkIsWithinScale t f c = IsWithinMax (hclk_of f c) (scale_limit t c.vos)

-- 8 and 9: PCLK1 and PCLK2 are at most the limits of the power step
abbrev pub Pclk1IsWithin : TableParts → Facts → ClockChoice → Type 0
Pclk1IsWithin t f c = IsAtMost (pclk1_of f c) (whole (speeds_at t c.vos).pclk1)

abbrev pub Pclk2IsWithin : TableParts → Facts → ClockChoice → Type 0
Pclk2IsWithin t f c = IsAtMost (pclk2_of f c) (whole (speeds_at t c.vos).pclk2)

-- 10 and 11: where an IP in use needs it, the 48 MHz output is exactly, or at most, 48 MHz
abbrev pub Clk48IsExact : TableParts → Facts → ClockChoice → Type 0
Clk48IsExact t f c = IsTrue f.exact48 → Equals (clk48_of f c) (whole mhz_48)

abbrev pub Clk48IsMost : TableParts → Facts → ClockChoice → Type 0
Clk48IsMost t f c = IsTrue f.most48 → IsAtMost (clk48_of f c) (whole mhz_48)

-- 12: HCLK is at least the floor of the IPs in use
abbrev pub HclkIsAboveFloor : TableParts → Facts → ClockChoice → Type 0
HclkIsAboveFloor t f c = IsAtMost (whole f.floor) (hclk_of f c)

-- 13: a flash row covers HCLK at the supply voltage
abbrev pub HclkIsCovered : TableParts → Facts → ClockChoice → Type 0
HclkIsCovered t f c = (w : ℕ) × RowCovers t f.vdd w (hclk_of f c)

-- 14, 15 and 16: HCLK, PCLK1 and PCLK2 are as wished, where there is a wish
abbrev pub IsAsWished : Option ℕ → Fraction → Type 0
IsAsWished None x = Unit {0}
IsAsWished (Some wish) x = Equals x (whole wish)

abbrev pub HclkIsAsWished : TableParts → Facts → ClockChoice → Type 0
HclkIsAsWished t f c = IsAsWished f.hclk (hclk_of f c)

abbrev pub Pclk1IsAsWished : TableParts → Facts → ClockChoice → Type 0
Pclk1IsAsWished t f c = IsAsWished f.pclk1 (pclk1_of f c)

abbrev pub Pclk2IsAsWished : TableParts → Facts → ClockChoice → Type 0
Pclk2IsAsWished t f c = IsAsWished f.pclk2 (pclk2_of f c)

-- 17: over-drive runs beside the PLL alone
abbrev pub PllIsUsedWithOver : TableParts → Facts → ClockChoice → Type 0
PllIsUsedWithOver t f c = IsTrue (has_over c.vos) → IsTrue (pll_used f c)

-- ---- the tests

-- what holds where a condition does
abbrev pub where_so : Bool → Bool → Bool
where_so condition test = not condition || test

abbrev pub are_within : ℕ × ℕ → Fraction → Bool
are_within bounds x = at_most (whole bounds.0) x && at_most x (whole bounds.1)

abbrev pub is_equal : Fraction → Fraction → Bool
is_equal x y = at_most x y && at_most y x

abbrev pub is_as_wished : Option ℕ → Fraction → Bool
is_as_wished None x = true
is_as_wished (Some wish) x = is_equal x (whole wish)

-- the HSE can be used
abbrev pub is_fed : TableParts → Facts → Bool
is_fed t f = f.osc_in && (nat_le (hse_bounds t f).0 f.hse_hz && nat_le f.hse_hz (hse_bounds t f).1)

-- the limits in ascending order, each with its number and whether the choice meets it
unfoldable pub limits_of : TableParts → Facts → ClockChoice → List (ℕ × Bool)
limits_of t f c =
    (limit_number name.Hse, where_so (hse_used f c) (is_fed t f))
    ∷ (limit_number name.VcoIn, where_so (pll_used f c) (are_within t.limits.vco_in (vco_in_of f c)))
    ∷ (limit_number name.Vco, where_so (pll_used f c) (are_within t.limits.vco (vco_of f c)))
    ∷ (limit_number name.Sysclk, at_most (sysclk_of f c) (whole (speeds_at t c.vos).sysclk))
    ∷ (limit_number name.Hclk, is_within_max (hclk_of f c) (scale_limit t c.vos))
    ∷ (limit_number name.Pclk1, at_most (pclk1_of f c) (whole (speeds_at t c.vos).pclk1))
    ∷ (limit_number name.Pclk2, at_most (pclk2_of f c) (whole (speeds_at t c.vos).pclk2))
    ∷ (limit_number name.Exact48, where_so f.exact48 (is_equal (clk48_of f c) (whole mhz_48)))
    ∷ (limit_number name.Most48, where_so f.most48 (at_most (clk48_of f c) (whole mhz_48)))
    ∷ (limit_number name.Floor, at_most (whole f.floor) (hclk_of f c))
    ∷ (limit_number name.FlashRow, is_covered t f.vdd (hclk_of f c))
    ∷ (limit_number name.HclkWish, is_as_wished f.hclk (hclk_of f c))
    ∷ (limit_number name.Pclk1Wish, is_as_wished f.pclk1 (pclk1_of f c))
    ∷ (limit_number name.Pclk2Wish, is_as_wished f.pclk2 (pclk2_of f c))
    ∷ (limit_number name.OverDrive, where_so (has_over c.vos) (pll_used f c))
    ∷ []

-- the limit of a number is met
abbrev pub is_met : ℕ → List (ℕ × Bool) → Bool
is_met k [] = true
is_met k (limit ∷ limits) = if limit.0 == k then limit.1 else is_met k limits

-- the first limit that is not met
abbrev pub first_broken : List (ℕ × Bool) → Option ℕ
first_broken [] = None
first_broken (limit ∷ limits) = if limit.1 then first_broken limits else Some limit.0

-- the choice meets the limit of a number
abbrev pub meets_limit : TableParts → Facts → ClockChoice → ℕ → Bool
meets_limit t f c k = is_met k (limits_of t f c)

-- the least number of a limit that the choice breaks
abbrev pub broken_limit : TableParts → Facts → ClockChoice → Option ℕ
broken_limit t f c = first_broken (limits_of t f c)

-- each test tells whether its sentence holds
pub record TestsTell (t : TableParts) (f : Facts) (c : ClockChoice) : Type 0 where
  pub hse : IsTrue (meets_limit t f c (limit_number name.Hse)) ↔ HseIsFed t f c
  pub vco_in : IsTrue (meets_limit t f c (limit_number name.VcoIn)) ↔ VcoInIsWithin t f c
  pub vco : IsTrue (meets_limit t f c (limit_number name.Vco)) ↔ VcoIsWithin t f c
  pub sysclk : IsTrue (meets_limit t f c (limit_number name.Sysclk)) ↔ SysclkIsWithin t f c
  pub scale : IsTrue (meets_limit t f c (limit_number name.Hclk)) ↔ HclkIsWithinScale t f c
  pub pclk1 : IsTrue (meets_limit t f c (limit_number name.Pclk1)) ↔ Pclk1IsWithin t f c
  pub pclk2 : IsTrue (meets_limit t f c (limit_number name.Pclk2)) ↔ Pclk2IsWithin t f c
  pub exact48 : IsTrue (meets_limit t f c (limit_number name.Exact48)) ↔ Clk48IsExact t f c
  pub most48 : IsTrue (meets_limit t f c (limit_number name.Most48)) ↔ Clk48IsMost t f c
  pub floor : IsTrue (meets_limit t f c (limit_number name.Floor)) ↔ HclkIsAboveFloor t f c
  pub covered : IsTrue (meets_limit t f c (limit_number name.FlashRow)) ↔ HclkIsCovered t f c
  pub hclk_wish : IsTrue (meets_limit t f c (limit_number name.HclkWish)) ↔ HclkIsAsWished t f c
  pub pclk1_wish : IsTrue (meets_limit t f c (limit_number name.Pclk1Wish)) ↔ Pclk1IsAsWished t f c
  pub pclk2_wish : IsTrue (meets_limit t f c (limit_number name.Pclk2Wish)) ↔ Pclk2IsAsWished t f c
  pub over : IsTrue (meets_limit t f c (limit_number name.OverDrive)) ↔ PllIsUsedWithOver t f c
