-- The setting of a choice can be set up, and the table allows that of a choice that meets the limits.
use Rattle.std.proofs.Common.{◌≡◌, ◌≢◌, ℕ, zero, suc, ◌+◌, ◌<◌, ◌≤◌, ◌==◌, List, [], ◌∷◌, ◌++◌, length, map, get_or, Bool, true, false, cond, Option, Some, None, refl, subst, ap, arith}
use Rattle.std.specs.Option.{option_to_list}
use Rattle.std.specs.Prelude.{slice_get, unwrap_or}
use Rattle.res_base.proofs.ListLemmas.{each_in}
use Rattle.res_base.specs.Fraction.{Fraction}
use Rattle.res_base.specs.Lists.{Each, Member}
use Rattle.choice_rank.specs.Choices.{IsChoice}
use Rattle.clock_limits.proofs.SayLemmas.{tests_tell}
use Rattle.power_flash.proofs.FlashLemmas.{covers_at, none_at, rows_few}
use Rattle.res_model.specs.Clock.{hclk_of}
use Rattle.res_model.specs.Limits.{TestsTell}
use Rattle.res_model.specs.Placement.{uses_at}
use Rattle.res_model.specs.Power.{RowCovers, flash_rows, wait_of}
use Rattle.res_model.specs.ClockValues.{ahb_dividers, apb_dividers, known_steps, pll_dividers}
use Rattle.res_model.specs.Valid.{AreDomains, IsValid}
use Rattle.res_model.specs.declared.clock.ClockChoice.{ClockChoice}
use Rattle.res_model.specs.declared.project.Signal.{Signal}
use Rattle.res_model.specs.declared.table.Mode.{Mode}
use Rattle.res_model.specs.declared.table.Mode.TheVariants as mode
use Rattle.res_model.specs.declared.table.PinUse.{PinUse}
use Rattle.res_model.specs.declared.table.TableParts.{TableParts}
use Rattle.init_gen.specs.Good.{HasFields, IsAllowed, IsSettable}
use Rattle.init_gen.specs.PinWrites.{AreWhole, IsNarrow}
use Rattle.init_gen.specs.declared.setting.Setup.{Setup}
use Rattle.problem.proofs.ChosenLemmas.{clock_in_range, clock_of_domain}
use Rattle.problem.proofs.MeetsLemmas.{meets_says}
use Rattle.problem.specs.ClockValues.{clock_at, clock_domains, clock_value, numbers_from}
use Rattle.problem.specs.Meets.{meets, places_of}
use Rattle.problem.specs.Problem.{HaveFunctions, IsFunction, IsProblem}
use Rattle.problem.specs.declared.parts.ProblemParts.{ProblemParts}
use Rattle.choice_setup.specs.SetUp.{place_of, places, setting_of, setup_at, setup_of, setups_of}

-- ---- the fields of the clocks

module _ (p : ProblemParts) (agree : IsProblem p) (whole : p.first ≢ 0) (at : List ℕ) (choice : IsChoice p.shape at) (domains : AreDomains p.tables.version p.tables.clock) where
  -- a value of a list of the table is one of those that the form allows
  of : (these list : List ℕ) (v : ℕ) → Each (λ n. Member n these) list → Member v list → Member v these
  of these list v known m = each_in (λ n. Member n these) v list known m

  abbrev chosen : ClockChoice
  chosen = clock_at p.clock at

  hpre_of : Member chosen.hpre ahb_dividers
  unfolding clock_at clock_domains
  hpre_of = of ahb_dividers p.tables.clock.hpre (clock_value p.clock at 2) domains.hpre.known (clock_of_domain p agree whole at choice 2 (omega arith))

  p_of : Member chosen.p pll_dividers
  unfolding clock_at clock_domains
  p_of = of pll_dividers p.tables.clock.p (clock_value p.clock at 3) domains.p.known (clock_of_domain p agree whole at choice 3 (omega arith))

  ppre1_of : Member chosen.ppre1 apb_dividers
  unfolding clock_at clock_domains
  ppre1_of = of apb_dividers p.tables.clock.ppre1 (clock_value p.clock at 7) domains.ppre1.known (clock_of_domain p agree whole at choice 7 (omega arith))

  ppre2_of : Member chosen.ppre2 apb_dividers
  unfolding clock_at clock_domains
  ppre2_of = of apb_dividers p.tables.clock.ppre2 (clock_value p.clock at 8) domains.ppre2.known (clock_of_domain p agree whole at choice 8 (omega arith))

  vos_of : Member chosen.vos (known_steps p.tables.version)
  unfolding clock_at clock_domains
  vos_of = of (known_steps p.tables.version) p.tables.clock.vos (clock_value p.clock at 9) domains.vos.known (clock_of_domain p agree whole at choice 9 (omega arith))

  fields : HasFields p.tables.version (clock_at p.clock at)
  fields = record { range = clock_in_range p agree whole at choice; hpre = hpre_of; p = p_of; ppre1 = ppre1_of; ppre2 = ppre2_of; vos = vos_of }

-- ---- wait states

-- the least wait states are fewer than the rows, and their row covers HCLK where some row does
small_wait : (t : TableParts) (vdd : ℕ) (hclk : Fraction) (o : Option ℕ) → o ≡ wait_of t vdd hclk → length (flash_rows t vdd) ≤ 8 → unwrap_or o 0 < 8
small_wait t vdd hclk None e few = omega arith
small_wait t vdd hclk (Some w) e few = let c = covers_at (flash_rows t vdd) hclk (Some w) e in omega (arith, c.0, few)

row_of : (t : TableParts) (vdd : ℕ) (hclk : Fraction) (o : Option ℕ) → o ≡ wait_of t vdd hclk → (w : ℕ) → RowCovers t vdd w hclk → RowCovers t vdd (unwrap_or o 0) hclk
row_of t vdd hclk None e w covers = absurd (none_at (flash_rows t vdd) hclk None e w covers)
row_of t vdd hclk (Some v) e w covers = covers_at (flash_rows t vdd) hclk (Some v) e

-- ---- the setups

narrow : (m : Mode) → IsFunction m → IsNarrow m
narrow (mode.Alt n) h = h
narrow mode.Input h = tt
narrow mode.Output h = tt
narrow mode.Analog h = tt
narrow mode.Exti h = tt
narrow mode.Osc h = tt
narrow mode.Held h = tt

prefix_use : (o : Option PinUse) (rest : List PinUse) → ((u : PinUse) → o ≡ Some u → IsFunction u.mode) → HaveFunctions rest → HaveFunctions (option_to_list o ++ rest)
prefix_use None rest f h = h
prefix_use (Some u) rest f h = (f u refl, h)

got_function : (us : List PinUse) (i : ℕ) (u : PinUse) → HaveFunctions us → slice_get us i ≡ Some u → IsFunction u.mode
got_function [] i u h e = absurd cc
got_function (w ∷ ws) zero u h e = let same : w ≡ u = cc in subst (λ (x : PinUse). IsFunction x.mode) same h.0
got_function (w ∷ ws) (suc i) u h e = got_function ws i u h.1 e

uses_functions : (uses : List (List PinUse)) (at : List ℕ) → Each HaveFunctions uses → HaveFunctions (uses_at uses at)
uses_functions [] at h = tt
uses_functions (values ∷ rest) [] h = tt
uses_functions (values ∷ rest) (i ∷ at) h = prefix_use (slice_get values i) (uses_at rest at) (λ u e. got_function values i u h.0 e) (uses_functions rest at h.1)

narrow_setup : (t : TableParts) (s : Signal) (u : PinUse) (v : Setup) → IsFunction u.mode → ◌≡◌ {A = Option Setup} (Some (setup_of t s u)) (Some v) → IsNarrow v.mode
narrow_setup t s u v h e = let same : setup_of t s u ≡ v = cc in subst (λ (x : Setup). IsNarrow x.mode) same (narrow u.mode h)

setup_narrow : (t : TableParts) (ss : List Signal) (us : List PinUse) → HaveFunctions us → (place : ℕ) (v : Setup) → setup_at t ss us place ≡ Some v → IsNarrow v.mode
setup_narrow t [] us h place v e = absurd cc
setup_narrow t (s ∷ ss) [] h place v e = absurd cc
setup_narrow t (s ∷ ss) (u ∷ us) h place v e = case (place_of t u.pin == place) (setup_narrow t ss us h.1 place v) e
  where
    case : (b : Bool) → (setup_at t ss us place ≡ Some v → IsNarrow v.mode) → ◌≡◌ {A = Option Setup} (cond b (Some (setup_of t s u)) (setup_at t ss us place)) (Some v) → IsNarrow v.mode
    case true rest q = narrow_setup t s u v h.0 q
    case false rest q = rest q

map_narrow : (f : ℕ → Option Setup) → ((k : ℕ) (v : Setup) → f k ≡ Some v → IsNarrow v.mode) → (xs : List ℕ) (i : ℕ) (v : Setup) → ◌≡◌ {A = Option Setup} (get_or (map f xs) i None) (Some v) → IsNarrow v.mode
map_narrow f h [] i v e = absurd cc
map_narrow f h (x ∷ xs) zero v e = h x v e
map_narrow f h (x ∷ xs) (suc i) v e = map_narrow f h xs i v e

map_long : (f : ℕ → Option Setup) (n a : ℕ) → length (map f (numbers_from n a)) ≡ n
map_long f zero a = refl
map_long f (suc n) a = ap suc (map_long f n (a + 1))

whole_setups : (t : TableParts) (ss : List Signal) (us : List PinUse) → HaveFunctions us → AreWhole (setups_of t ss us)
unfolding setups_of places
whole_setups t ss us h = record {
  few = omega (arith, map_long (setup_at t ss us) 144 0);
  setup = λ i v e. map_narrow (setup_at t ss us) (setup_narrow t ss us h) (numbers_from 144 0) i v e;
}

-- ---- the whole

pub settable : (p : ProblemParts) (at : List ℕ) → IsProblem p → IsValid p.tables → p.first ≢ 0 → IsChoice p.shape at → IsSettable (setting_of p at)
unfolding setting_of
settable p at agree valid whole choice = record {
  clock = fields p agree whole at choice valid.clock;
  wait = small_wait p.tables p.facts.vdd (hclk_of p.facts (clock_at p.clock at)) (wait_of p.tables p.facts.vdd (hclk_of p.facts (clock_at p.clock at))) refl (rows_few p.tables p.facts.vdd valid);
  pins = whole_setups p.tables p.signals (uses_at p.uses (places_of p at)) (uses_functions p.uses (places_of p at) agree.functions);
}

pub allowed : (p : ProblemParts) (at : List ℕ) → p.first ≢ 0 → meets p at ≡ true → IsAllowed p.tables (setting_of p at)
unfolding setting_of
allowed p at whole m =
    let tell : TestsTell p.tables p.facts (clock_at p.clock at) = tests_tell p.tables p.facts (clock_at p.clock at) in
    let met = (meets_says p at m).clocks whole in
    let covered = tell.covered.0 (met 13) in
    record {
      version = refl;
      hse = tell.hse.0 (met 3);
      vco_in = tell.vco_in.0 (met 4);
      vco = tell.vco.0 (met 5);
      sysclk = tell.sysclk.0 (met 6);
      scale = tell.scale.0 (met 7);
      pclk1 = tell.pclk1.0 (met 8);
      pclk2 = tell.pclk2.0 (met 9);
      over = tell.over.0 (met 17);
      row = row_of p.tables p.facts.vdd (hclk_of p.facts (clock_at p.clock at)) (wait_of p.tables p.facts.vdd (hclk_of p.facts (clock_at p.clock at))) refl covered.0 covered.1;
      prefetch = refl;
    }
