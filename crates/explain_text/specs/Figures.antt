-- What is said of a limit that nothing can meet: what it asks, and by how much it is missed over all values of the clock
-- variables.
use Rattle.std.specs.Prelude.{ℕ, ◌-◌, ◌++◌, List, [], ◌∷◌, Bool, true, false, length, max, Option, Some, None, codes, decimal, if◌then◌else◌, slice_index}
use Rattle.res_base.specs.Fraction.{Fraction}
use Rattle.box_spans.specs.Every.{ranges_of}
use Rattle.clock_limits.specs.declared.ranges.NodeRanges.{NodeRanges}
use Rattle.clock_limits.specs.Ranges.{values_at}
use Rattle.problem.specs.declared.parts.ProblemParts.{ProblemParts}
use Rattle.res_model.specs.Limits.{hse_bounds, mhz_48}
use Rattle.res_model.specs.Power.{range_at, scale_limit, speeds_at}
use Rattle.res_model.specs.declared.clock.Facts.{Facts}
use Rattle.res_model.specs.declared.clock.Range.{Range}
use Rattle.res_model.specs.declared.table.FlashRange.{FlashRange}
use Rattle.res_model.specs.declared.table.TableParts.{TableParts}
use Rattle.res_model.specs.declared.limit.Limit.{Limit}
use Rattle.res_model.specs.declared.limit.Limit.TheVariants as name
use Rattle.explain_text.specs.LimitNames.{limit_named}
use Rattle.explain_text.specs.Names.{hertz_text, range_text}

-- what is wrong where a limit is not met
abbrev pub limit_words : Limit → List ℕ
limit_words name.Hse = codes "HSE can not be used"
limit_words name.VcoIn = codes "VCO_IN out of range"
limit_words name.Vco = codes "VCO out of range"
limit_words name.Sysclk = codes "SYSCLK too high"
limit_words name.Hclk = codes "HCLK too high for the voltage scale"
limit_words name.Pclk1 = codes "PCLK1 too high"
limit_words name.Pclk2 = codes "PCLK2 too high"
limit_words name.Exact48 = codes "CLK48 not 48000000"
limit_words name.Most48 = codes "CLK48 too high"
limit_words name.Floor = codes "HCLK too low for a peripheral"
limit_words name.FlashRow = codes "no flash row for HCLK"
limit_words name.HclkWish = codes "HCLK not as wished"
limit_words name.Pclk1Wish = codes "PCLK1 not as wished"
limit_words name.Pclk2Wish = codes "PCLK2 not as wished"
limit_words name.OverDrive = codes "over-drive without the PLL"

-- ---- forms of figures

unfoldable pub possible : Range → List ℕ
possible r = codes "possible " ++ range_text r

unfoldable pub bounds_text : ℕ × ℕ → List ℕ
bounds_text bounds = codes ", allowed " ++ decimal bounds.0 ++ codes " to " ++ decimal bounds.1

unfoldable pub possible_within : Range → ℕ × ℕ → List ℕ
possible_within r bounds = possible r ++ bounds_text bounds

unfoldable pub least_allowed : Fraction → ℕ → List ℕ
least_allowed x most = codes "least " ++ hertz_text x ++ codes ", allowed " ++ decimal most

unfoldable pub greatest_needed : Fraction → ℕ → List ℕ
greatest_needed x floor = codes "greatest " ++ hertz_text x ++ codes ", needed " ++ decimal floor

abbrev pub hertz_or : Option ℕ → ℕ
hertz_or None = 0
hertz_or (Some hertz) = hertz

unfoldable pub wished : Range → Option ℕ → List ℕ
wished r wish = possible r ++ codes ", wished " ++ decimal (hertz_or wish)

-- ---- the HSE

abbrev pub kind_word : Bool → List ℕ
kind_word true = codes "bypass "
kind_word false = codes "crystal "

unfoldable pub no_signal : TableParts → List ℕ
no_signal t = codes "no signal " ++ t.hse_in

unfoldable pub hse_figures : TableParts → Facts → List ℕ
hse_figures t f = if f.osc_in then kind_word f.bypass ++ decimal f.hse_hz ++ bounds_text (hse_bounds t f) else no_signal t

-- ---- the power step: the greatest HCLK, SYSCLK, PCLK1 and PCLK2 at any of these

abbrev pub scales_most : TableParts → List ℕ → ℕ
scales_most t [] = 0
scales_most t (step ∷ steps) = max (hertz_or (scale_limit t step)) (scales_most t steps)

abbrev pub sysclk_most : TableParts → List ℕ → ℕ
sysclk_most t [] = 0
sysclk_most t (step ∷ steps) = max (speeds_at t step).sysclk (sysclk_most t steps)

abbrev pub pclk1_most : TableParts → List ℕ → ℕ
pclk1_most t [] = 0
pclk1_most t (step ∷ steps) = max (speeds_at t step).pclk1 (pclk1_most t steps)

abbrev pub pclk2_most : TableParts → List ℕ → ℕ
pclk2_most t [] = 0
pclk2_most t (step ∷ steps) = max (speeds_at t step).pclk2 (pclk2_most t steps)

-- ---- the flash: the last row of the range of the supply voltage

unfoldable pub no_range : ℕ → List ℕ
no_range vdd = codes "no range with " ++ decimal vdd ++ codes " mV"

abbrev pub last_row : FlashRange → ℕ
last_row range = slice_index range.rows (length range.rows - 1)

unfoldable pub row_figures : ℕ → Fraction → ℕ → List ℕ
row_figures vdd hclk row = least_allowed hclk row ++ codes " at " ++ decimal vdd ++ codes " mV"

abbrev pub flash_from : Option FlashRange → ℕ → Fraction → List ℕ
flash_from None vdd hclk = no_range vdd
flash_from (Some range) vdd hclk = row_figures vdd hclk (last_row range)

abbrev pub flash_figures : TableParts → ℕ → Fraction → List ℕ
flash_figures t vdd hclk = flash_from (range_at t vdd) vdd hclk

-- ---- the figures of a limit, where the nodes have these ranges and there are these power steps. That of over-drive has none

abbrev pub figures_by : TableParts → Facts → List ℕ → NodeRanges → Limit → List ℕ
figures_by t f steps r name.Hse = hse_figures t f
figures_by t f steps r name.VcoIn = possible_within r.vco_in t.limits.vco_in
figures_by t f steps r name.Vco = possible_within r.vco t.limits.vco
figures_by t f steps r name.Sysclk = least_allowed r.sysclk.least (sysclk_most t steps)
figures_by t f steps r name.Hclk = least_allowed r.hclk.least (scales_most t steps)
figures_by t f steps r name.Pclk1 = least_allowed r.pclk1.least (pclk1_most t steps)
figures_by t f steps r name.Pclk2 = least_allowed r.pclk2.least (pclk2_most t steps)
figures_by t f steps r name.Exact48 = possible r.clk48
figures_by t f steps r name.Most48 = least_allowed r.clk48.least mhz_48
figures_by t f steps r name.Floor = greatest_needed r.hclk.most f.floor
figures_by t f steps r name.FlashRow = flash_figures t f.vdd r.hclk.least
figures_by t f steps r name.HclkWish = wished r.hclk f.hclk
figures_by t f steps r name.Pclk1Wish = wished r.pclk1 f.pclk1
figures_by t f steps r name.Pclk2Wish = wished r.pclk2 f.pclk2
figures_by t f steps r name.OverDrive = []

-- the figures of a limit over all values of the clock variables
unfoldable pub figures : ProblemParts → Limit → List ℕ
figures p limit = figures_by p.tables p.facts (values_at p.clock 9) (ranges_of p.facts p.clock) limit

-- the figures of a limit that has any, behind its words
abbrev pub figures_part : ProblemParts → Limit → List ℕ
figures_part p name.OverDrive = []
figures_part p name.Hse = codes ", " ++ figures p name.Hse
figures_part p name.VcoIn = codes ", " ++ figures p name.VcoIn
figures_part p name.Vco = codes ", " ++ figures p name.Vco
figures_part p name.Sysclk = codes ", " ++ figures p name.Sysclk
figures_part p name.Hclk = codes ", " ++ figures p name.Hclk
figures_part p name.Pclk1 = codes ", " ++ figures p name.Pclk1
figures_part p name.Pclk2 = codes ", " ++ figures p name.Pclk2
figures_part p name.Exact48 = codes ", " ++ figures p name.Exact48
figures_part p name.Most48 = codes ", " ++ figures p name.Most48
figures_part p name.Floor = codes ", " ++ figures p name.Floor
figures_part p name.FlashRow = codes ", " ++ figures p name.FlashRow
figures_part p name.HclkWish = codes ", " ++ figures p name.HclkWish
figures_part p name.Pclk1Wish = codes ", " ++ figures p name.Pclk1Wish
figures_part p name.Pclk2Wish = codes ", " ++ figures p name.Pclk2Wish

-- the line of the limit of a number
unfoldable pub limit_line : ProblemParts → ℕ → List ℕ
limit_line p k = codes "limit " ++ decimal k ++ codes ": " ++ limit_words (limit_named k) ++ figures_part p (limit_named k) ++ codes "\n"
