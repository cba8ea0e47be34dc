-- The laws of limits.
use Rattle.std.specs.Prelude.{◌≡◌, ℕ, ◌*◌, ◌<◌, Bool, true, false, not, ◌⊎◌, List, Option, Some, None}
use Rattle.res_base.specs.Fraction.{whole}
use Rattle.res_base.specs.Lists.{Member}
use Rattle.res_model.specs.declared.clock.ClockBox.{ClockBox}
use Rattle.res_model.specs.declared.clock.ClockChoice.{ClockChoice}
use Rattle.res_model.specs.declared.clock.Facts.{Facts}
use Rattle.res_model.specs.declared.table.TableParts.{TableParts}
use Rattle.res_model.specs.Clock.{IsBetween}
use Rattle.res_model.specs.Limits.{TestsTell, IsWithinMax, meets_limit, broken_limit}
use Rattle.res_model.specs.Power.{RowCovers, speeds_at, scale_limit}
use Rattle.clock_limits.specs.Ranges.{Allowed, AreInRange, IsClockBox, IsIn, IsOnePlace, IsWithin, allowed, greatest_of, hclk_reach, least_of, limit_refutes, refuting_limit, stands_alone}

-- a limit that refutes a box is broken by each choice in it, or the wish for HCLK is
abbrev pub RefutingIsBroken : Type 0
RefutingIsBroken =
    (t : TableParts) (f : Facts) (values : List (List ℕ)) (b : ClockBox) (k : ℕ) → AreInRange values → IsClockBox values b
    → limit_refutes t f values b k ≡ true → (c : ClockChoice) → IsIn c values b → meets_limit t f c 14 ≡ true → meets_limit t f c k ≡ false

-- a limit whose range does not rest on the wish, or any limit where there is no wish, is broken by each choice
abbrev pub RefutingAloneIsBroken : Type 0
RefutingAloneIsBroken =
    (t : TableParts) (f : Facts) (values : List (List ℕ)) (b : ClockBox) (k : ℕ) → AreInRange values → IsClockBox values b
    → limit_refutes t f values b k ≡ true → (stands_alone k ≡ true) ⊎ (f.hclk ≡ None) → (c : ClockChoice) → IsIn c values b → meets_limit t f c k ≡ false

-- on a box with one choice, what refutes it is what the choice breaks
abbrev pub OneChoiceIsExact : Type 0
OneChoiceIsExact =
    (t : TableParts) (f : Facts) (values : List (List ℕ)) (b : ClockBox) → AreInRange values → IsClockBox values b → IsOnePlace b
    → (c : ClockChoice) → IsIn c values b → refuting_limit t f values b ≡ broken_limit t f c

-- each test tells whether its sentence holds
abbrev pub TestsAreRight : Type 0
TestsAreRight = (t : TableParts) (f : Facts) (c : ClockChoice) → TestsTell t f c

-- where no limit is broken each is met; else the least that is broken is not met, and each below it is
abbrev pub IsLeastBroken : (ℕ → Bool) → Option ℕ → Type 0
IsLeastBroken met None = (j : ℕ) → met j ≡ true
IsLeastBroken met (Some k) = IsBetween 3 17 k × (met k ≡ false) × ((j : ℕ) → j < k → met j ≡ true)

abbrev pub BrokenIsLeast : Type 0
BrokenIsLeast = (t : TableParts) (f : Facts) (c : ClockChoice) → IsLeastBroken (meets_limit t f c) (broken_limit t f c)

-- what is refuted is the least that is refuted
abbrev pub RefutingIsLeast : Type 0
RefutingIsLeast =
    (t : TableParts) (f : Facts) (values : List (List ℕ)) (b : ClockBox)
    → IsLeastBroken (λ k. not (limit_refutes t f values b k)) (refuting_limit t f values b)

-- a wish for HCLK that no HCLK of the box can be is refuted
abbrev pub WishOutOfReachRefutes : Type 0
WishOutOfReachRefutes =
    (t : TableParts) (f : Facts) (values : List (List ℕ)) (b : ClockBox) (wish : ℕ) → f.hclk ≡ Some wish
    → (¬ IsWithin (hclk_reach f (allowed values b)) (whole wish)) → limit_refutes t f values b 14 ≡ true

-- what an HCLK of this many hertz breaks refutes the box, whatever else HCLK may be in the box
pub record IsRefutedOf (t : TableParts) (f : Facts) (a : Allowed) (hclk : ℕ) (refutes : ℕ → Bool) : Type 0 where
  -- no power step of the box covers it
  pub scale : ((vos : ℕ) → Member vos a.vos → ¬ IsWithinMax (whole hclk) (scale_limit t vos)) → refutes 7 ≡ true
  -- it is too fast for a bus, by the greatest divider, at each power step of the box
  pub pclk1 : ((vos : ℕ) → Member vos a.vos → (speeds_at t vos).pclk1 * greatest_of a.ppre1 < hclk) → refutes 8 ≡ true
  pub pclk2 : ((vos : ℕ) → Member vos a.vos → (speeds_at t vos).pclk2 * greatest_of a.ppre2 < hclk) → refutes 9 ≡ true
  -- it is below the floor of the IPs in use
  pub floor : hclk < f.floor → refutes 12 ≡ true
  -- no flash row covers it
  pub row : ((w : ℕ) → ¬ RowCovers t f.vdd w (whole hclk)) → refutes 13 ≡ true
  -- no divider makes a bus as wished
  pub wish1 : (w : ℕ) → f.pclk1 ≡ Some w → (w * greatest_of a.ppre1 < hclk) ⊎ (hclk < w * least_of a.ppre1) → refutes 15 ≡ true
  pub wish2 : (w : ℕ) → f.pclk2 ≡ Some w → (w * greatest_of a.ppre2 < hclk) ⊎ (hclk < w * least_of a.ppre2) → refutes 16 ≡ true

-- a wish for HCLK narrows what HCLK may be to the wish alone: where the box can have it, what it breaks is refuted
abbrev pub WishNarrows : Type 0
WishNarrows =
    (t : TableParts) (f : Facts) (values : List (List ℕ)) (b : ClockBox) (wish : ℕ) → f.hclk ≡ Some wish
    → limit_refutes t f values b 14 ≡ false → IsRefutedOf t f (allowed values b) wish (limit_refutes t f values b)
