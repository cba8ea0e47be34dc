-- Wait states and power steps (RM0090, embedded flash and PWR): what the supply voltage, and the voltage regulator with
-- over-drive or without, allow.
use Rattle.std.specs.Prelude.{ℕ, ◌<◌, ◌==◌, ◌&&◌, Bool, false, List, [], find, length, nat_le, slice_index, if◌then◌else◌, Option, Some, None}
use Rattle.std.specs.List.{list_any, position_from}
use Rattle.res_base.specs.Fraction.{Fraction, IsAtMost, at_most, whole}
use Rattle.res_model.specs.ClockValues.{has_over}
use Rattle.res_model.specs.declared.table.Bounds.{Bounds}
use Rattle.res_model.specs.declared.table.FlashRange.{FlashRange}
use Rattle.res_model.specs.declared.table.Over.{Over}
use Rattle.res_model.specs.declared.table.Scale.{Scale}
use Rattle.res_model.specs.declared.table.TableParts.{TableParts}

-- ---- the flash range of a supply voltage in millivolts

abbrev pub has_supply : ℕ → FlashRange → Bool
has_supply vdd r = nat_le r.from vdd && nat_le vdd r.to

unfoldable pub range_at : TableParts → ℕ → Option FlashRange
range_at t vdd = find (has_supply vdd) t.flash

abbrev pub rows_of_range : Option FlashRange → List ℕ
rows_of_range None = []
rows_of_range (Some r) = r.rows

-- row w is the greatest HCLK under w wait states
abbrev pub flash_rows : TableParts → ℕ → List ℕ
flash_rows t vdd = rows_of_range (range_at t vdd)

-- the row of w wait states is there and covers HCLK
abbrev pub RowCovers : TableParts → ℕ → ℕ → Fraction → Type 0
RowCovers t vdd w hclk = (w < length (flash_rows t vdd)) × IsAtMost hclk (whole (slice_index (flash_rows t vdd) w))

abbrev pub is_covered_by : Fraction → ℕ → Bool
is_covered_by hclk row = at_most hclk (whole row)

-- some row covers HCLK
abbrev pub is_covered : TableParts → ℕ → Fraction → Bool
is_covered t vdd hclk = list_any (is_covered_by hclk) (flash_rows t vdd)

-- the wait states of the first row that covers HCLK
abbrev pub wait_of : TableParts → ℕ → Fraction → Option ℕ
wait_of t vdd hclk = position_from (is_covered_by hclk) 0 (flash_rows t vdd)

abbrev pub range_prefetches : Option FlashRange → Bool
range_prefetches None = false
range_prefetches (Some r) = r.prefetch

-- ---- the limits at a power step

-- the limits of SYSCLK, PCLK1 and PCLK2 without over-drive, and where a table has others with it
abbrev pub plain_speeds : Bounds → Over
plain_speeds b = record { sysclk = b.sysclk; pclk1 = b.pclk1; pclk2 = b.pclk2 }

abbrev pub over_speeds : Option Over → Over → Over
over_speeds None plain = plain
over_speeds (Some over) plain = over

-- the limits of SYSCLK, PCLK1 and PCLK2 at a power step
unfoldable pub speeds_at : TableParts → ℕ → Over
speeds_at t step = if has_over step then over_speeds t.over (plain_speeds t.limits) else plain_speeds t.limits

abbrev pub max_of : Option Scale → Option ℕ
max_of None = None
max_of (Some s) = Some s.max

-- the greatest HCLK at a power step, where the table has the step
unfoldable pub scale_limit : TableParts → ℕ → Option ℕ
scale_limit t step = max_of (find (λ (s : Scale). s.vos == step) t.scales)

-- the step is there and its limit covers HCLK
abbrev pub is_within_max : Fraction → Option ℕ → Bool
is_within_max hclk None = false
is_within_max hclk (Some max) = at_most hclk (whole max)
