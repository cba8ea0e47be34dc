-- What the values at the positions in a box allow: ranges of the nodes, and the limits that no choice in the box meets.
-- A range goes from a least to a greatest fraction, by the same steps as the node itself.
use Rattle.std.specs.Prelude.{◌≡◌, ℕ, ◌+◌, ◌<◌, ◌≤◌, ◌==◌, ◌&&◌, ◌||◌, Bool, true, not, nat_le, if◌then◌else◌, List, [], ◌∷◌, length, min, max, Option, Some, None, slice_index, slice_index_or, slice_range}
use Rattle.std.specs.List.{list_all, list_any}
use Rattle.res_base.specs.Fraction.{Fraction, IsAtMost, at_most, whole, times, over}
use Rattle.res_base.specs.Lists.{Each, Member}
use Rattle.res_model.specs.ClockValues.{has_over, hsi, source_number}
use Rattle.res_model.specs.Clock.{IsBetween}
use Rattle.res_model.specs.LimitNumbers.{limit_number}
use Rattle.res_model.specs.declared.limit.Limit.TheVariants as name
use Rattle.res_model.specs.Limits.{where_so, is_fed, mhz_48, first_broken, is_met}
use Rattle.res_model.specs.Power.{is_covered, speeds_at, scale_limit, is_within_max}
use Rattle.res_model.specs.declared.clock.ClockBox.{ClockBox}
use Rattle.res_model.specs.declared.clock.ClockChoice.{ClockChoice}
use Rattle.res_model.specs.declared.clock.Facts.{Facts}
use Rattle.res_model.specs.declared.clock.Range.{Range}
use Rattle.res_model.specs.declared.clock.Src.{Src}
use Rattle.res_model.specs.declared.clock.Src.TheVariants.{Hsi, Hse, Pll}
use Rattle.res_model.specs.declared.table.TableParts.{TableParts}

-- ---- boxes

-- the values of the clock variable of this number, and those at its positions in the box
abbrev pub values_at : List (List ℕ) → ℕ → List ℕ
values_at values k = slice_index_or values k []

unfoldable pub run_of : List (List ℕ) → ClockBox → ℕ → List ℕ
run_of values b k = slice_range (values_at values k) (slice_index b.lo k) (slice_index b.hi k + 1)

-- the values that a box allows
pub record Allowed : Type 0 where
  pub src : List ℕ
  pub psrc : List ℕ
  pub hpre : List ℕ
  pub p : List ℕ
  pub m : List ℕ
  pub n : List ℕ
  pub q : List ℕ
  pub ppre1 : List ℕ
  pub ppre2 : List ℕ
  pub vos : List ℕ

abbrev pub allowed : List (List ℕ) → ClockBox → Allowed
allowed values b = record {
  src = run_of values b 0;
  psrc = run_of values b 1;
  hpre = run_of values b 2;
  p = run_of values b 3;
  m = run_of values b 4;
  n = run_of values b 5;
  q = run_of values b 6;
  ppre1 = run_of values b 7;
  ppre2 = run_of values b 8;
  vos = run_of values b 9;
}

-- each value of the choice is one of these
pub record IsAllowed (c : ClockChoice) (a : Allowed) : Type 0 where
  pub src : Member (source_number c.src) a.src
  pub psrc : Member (source_number c.psrc) a.psrc
  pub hpre : Member c.hpre a.hpre
  pub p : Member c.p a.p
  pub m : Member c.m a.m
  pub n : Member c.n a.n
  pub q : Member c.q a.q
  pub ppre1 : Member c.ppre1 a.ppre1
  pub ppre2 : Member c.ppre2 a.ppre2
  pub vos : Member c.vos a.vos

-- the choice lies in the box: each of its values stands at a position of the run
abbrev pub IsIn : ClockChoice → List (List ℕ) → ClockBox → Type 0
IsIn c values b = IsAllowed c (allowed values b)

-- a run of positions for each of ten lists of values
pub record IsRun (values : List (List ℕ)) (b : ClockBox) (k : ℕ) : Type 0 where
  pub ordered : slice_index b.lo k ≤ slice_index b.hi k
  pub inside : slice_index b.hi k < length (values_at values k)

pub record IsClockBox (values : List (List ℕ)) (b : ClockBox) : Type 0 where
  pub ten : length values ≡ 10
  pub runs : (k : ℕ) → k < 10 → IsRun values b k

-- the box has one choice
abbrev pub IsOnePlace : ClockBox → Type 0
IsOnePlace b = (k : ℕ) → k < 10 → slice_index b.lo k ≡ slice_index b.hi k

-- the widest values that a table may state for each clock variable
pub record AreInRange (values : List (List ℕ)) : Type 0 where
  pub src : Each (IsBetween 0 2) (values_at values 0)
  pub psrc : Each (IsBetween 0 1) (values_at values 1)
  pub hpre : Each (IsBetween 1 512) (values_at values 2)
  pub p : Each (IsBetween 2 8) (values_at values 3)
  pub m : Each (IsBetween 2 63) (values_at values 4)
  pub n : Each (IsBetween 50 432) (values_at values 5)
  pub q : Each (IsBetween 2 15) (values_at values 6)
  pub ppre1 : Each (IsBetween 1 16) (values_at values 7)
  pub ppre2 : Each (IsBetween 1 16) (values_at values 8)

-- ---- the least and the greatest of numbers

abbrev pub least_from : ℕ → List ℕ → ℕ
least_from v [] = v
least_from v (w ∷ ws) = min v (least_from w ws)

abbrev pub least_of : List ℕ → ℕ
least_of [] = 0
least_of (v ∷ vs) = least_from v vs

abbrev pub greatest_from : ℕ → List ℕ → ℕ
greatest_from v [] = v
greatest_from v (w ∷ ws) = max v (greatest_from w ws)

abbrev pub greatest_of : List ℕ → ℕ
greatest_of [] = 0
greatest_of (v ∷ vs) = greatest_from v vs

-- ---- ranges

pub record IsWithin (r : Range) (x : Fraction) : Type 0 where
  pub above : IsAtMost r.least x
  pub below : IsAtMost x r.most

abbrev pub exactly : Fraction → Range
exactly x = record { least = x; most = x }

-- the least range that has two others
abbrev pub joined : Range → Range → Range
joined r s = record {
  least = if at_most r.least s.least then r.least else s.least;
  most = if at_most r.most s.most then s.most else r.most;
}

-- a range divided by each of these numbers, and multiplied by each
abbrev pub divided : Range → List ℕ → Range
divided r ns = record { least = over r.least (greatest_of ns); most = over r.most (least_of ns) }

abbrev pub multiplied : Range → List ℕ → Range
multiplied r ns = record { least = times r.least (least_of ns); most = times r.most (greatest_of ns) }

-- the output of a source, where the range of the PLL's is given
abbrev pub output_range : ℕ → Range → ℕ → Range
output_range hse_hz pll source =
    if source == 0 then exactly (whole hsi) else (if source == 1 then exactly (whole hse_hz) else pll)

-- a range with the outputs of these sources too
abbrev pub with_outputs : ℕ → Range → Range → List ℕ → Range
with_outputs hse_hz pll r [] = r
with_outputs hse_hz pll r (s ∷ ss) = with_outputs hse_hz pll (joined r (output_range hse_hz pll s)) ss

-- the outputs of these sources
abbrev pub outputs : ℕ → Range → List ℕ → Range
outputs hse_hz pll [] = pll
outputs hse_hz pll (s ∷ ss) = with_outputs hse_hz pll (output_range hse_hz pll s) ss

-- the ranges of the nodes
abbrev pub input_range : Facts → Allowed → Range
input_range f a = outputs f.hse_hz (exactly (whole hsi)) a.psrc

abbrev pub vco_in_range : Facts → Allowed → Range
vco_in_range f a = divided (input_range f a) a.m

abbrev pub vco_range : Facts → Allowed → Range
vco_range f a = multiplied (vco_in_range f a) a.n

abbrev pub system_output_range : Facts → Allowed → Range
system_output_range f a = divided (vco_range f a) a.p

abbrev pub clk48_range : Facts → Allowed → Range
clk48_range f a = divided (vco_range f a) a.q

abbrev pub sysclk_range : Facts → Allowed → Range
sysclk_range f a = outputs f.hse_hz (system_output_range f a) a.src

-- HCLK, whatever is wished
abbrev pub hclk_reach : Facts → Allowed → Range
hclk_reach f a = divided (sysclk_range f a) a.hpre

abbrev pub has : Range → Fraction → Bool
has r x = at_most r.least x && at_most x r.most

-- a wish that lies in a range narrows it to the wish alone
abbrev pub narrowed : Option ℕ → Range → Range
narrowed None r = r
narrowed (Some wish) r = if has r (whole wish) then exactly (whole wish) else r

abbrev pub hclk_range : Facts → Allowed → Range
hclk_range f a = narrowed f.hclk (hclk_reach f a)

abbrev pub pclk1_range : Facts → Allowed → Range
pclk1_range f a = divided (hclk_range f a) a.ppre1

abbrev pub pclk2_range : Facts → Allowed → Range
pclk2_range f a = divided (hclk_range f a) a.ppre2

-- ---- limits

-- the PLL, the HSE is used whatever is chosen
abbrev pub sure_pll : Facts → Allowed → Bool
sure_pll f a = list_all (λ s. s == 2) a.src || f.need48

abbrev pub sure_hse : Facts → Allowed → Bool
sure_hse f a = list_all (λ s. s == 1) a.src || (sure_pll f a && list_all (λ s. s == 1) a.psrc)

-- over-drive is on whatever is chosen, and the PLL is used for some choice
abbrev pub sure_over : Allowed → Bool
sure_over a = list_all has_over a.vos

abbrev pub may_pll : Facts → Allowed → Bool
may_pll f a = list_any (λ s. s == 2) a.src || f.need48

-- some power step of the box has a limit of SYSCLK, of PCLK1, of PCLK2 that this frequency keeps
abbrev pub some_sysclk : TableParts → Fraction → List ℕ → Bool
some_sysclk t x steps = list_any (λ step. at_most x (whole (speeds_at t step).sysclk)) steps

abbrev pub some_pclk1 : TableParts → Fraction → List ℕ → Bool
some_pclk1 t x steps = list_any (λ step. at_most x (whole (speeds_at t step).pclk1)) steps

abbrev pub some_pclk2 : TableParts → Fraction → List ℕ → Bool
some_pclk2 t x steps = list_any (λ step. at_most x (whole (speeds_at t step).pclk2)) steps

-- a range has a number within bounds
abbrev pub overlaps : ℕ × ℕ → Range → Bool
overlaps bounds r = at_most (whole bounds.0) r.most && at_most r.least (whole bounds.1)

abbrev pub has_wish : Option ℕ → Range → Bool
has_wish None r = true
has_wish (Some wish) r = has r (whole wish)

-- the limits in ascending order, each with its number and whether the ranges leave room for it
unfoldable pub limits_over : TableParts → Facts → Allowed → List (ℕ × Bool)
limits_over t f a =
    (limit_number name.Hse, where_so (sure_hse f a) (is_fed t f))
    ∷ (limit_number name.VcoIn, where_so (sure_pll f a) (overlaps t.limits.vco_in (vco_in_range f a)))
    ∷ (limit_number name.Vco, where_so (sure_pll f a) (overlaps t.limits.vco (vco_range f a)))
    ∷ (limit_number name.Sysclk, some_sysclk t (sysclk_range f a).least a.vos)
    ∷ (limit_number name.Hclk, list_any (λ vos. is_within_max (hclk_range f a).least (scale_limit t vos)) a.vos)
    ∷ (limit_number name.Pclk1, some_pclk1 t (pclk1_range f a).least a.vos)
    ∷ (limit_number name.Pclk2, some_pclk2 t (pclk2_range f a).least a.vos)
    ∷ (limit_number name.Exact48, where_so f.exact48 (has (clk48_range f a) (whole mhz_48)))
    ∷ (limit_number name.Most48, where_so f.most48 (at_most (clk48_range f a).least (whole mhz_48)))
    ∷ (limit_number name.Floor, at_most (whole f.floor) (hclk_range f a).most)
    ∷ (limit_number name.FlashRow, is_covered t f.vdd (hclk_range f a).least)
    ∷ (limit_number name.HclkWish, has_wish f.hclk (hclk_reach f a))
    ∷ (limit_number name.Pclk1Wish, has_wish f.pclk1 (pclk1_range f a))
    ∷ (limit_number name.Pclk2Wish, has_wish f.pclk2 (pclk2_range f a))
    ∷ (limit_number name.OverDrive, where_so (sure_over a) (may_pll f a))
    ∷ []

-- the limit of a number refutes the box: its ranges leave no room for it
abbrev pub limit_refutes : TableParts → Facts → List (List ℕ) → ClockBox → ℕ → Bool
limit_refutes t f values b k = not (is_met k (limits_over t f (allowed values b)))

-- the least number of a limit that refutes the box
abbrev pub refuting_limit : TableParts → Facts → List (List ℕ) → ClockBox → Option ℕ
refuting_limit t f values b = first_broken (limits_over t f (allowed values b))

-- a limit whose range does not rest on the wish for HCLK
abbrev pub stands_alone : ℕ → Bool
stands_alone k = nat_le k 6 || (k == 10 || (k == 11 || (k == 14 || k == 17)))
