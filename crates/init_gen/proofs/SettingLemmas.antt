-- A setting that a table allows: its codes fit the table, and what their fields say at the end is the setting.
use Rattle.std.proofs.Common.{◌≡◌, ℕ, zero, suc, ◌+◌, ◌-◌, ◌*◌, ◌^◌, ◌<◌, ◌≤◌, List, [], ◌∷◌, map, length, get_or, Bool, true, false, ◌&&◌, ◌||◌, cond, eqb, Option, Some, None, refl, sym, subst, ap, ◌∙◌, arith}
use Rattle.std.specs.Prelude.{find}
use Rattle.std.proofs.Common.{inl, inr}
use Rattle.std.proofs.lemmas.Bool.{eq-eqb, eqb-true}
use Rattle.reg_map.specs.Fields.{bit_of}
use Rattle.res_base.specs.Fraction.{Fraction, IsAtMost, whole, times, over}
use Rattle.res_base.specs.Lists.{Each, Member, Pairwise}
use Rattle.res_base.proofs.ListLemmas.{each_in}
use Rattle.res_model.specs.Clock.{IsOscillator, is_hse, is_pll, hse_used, pll_used, output, vco_in_of, vco_of, system_output_of, sysclk_of, timer, where_used, nodes_of}
use Rattle.res_model.specs.Limits.{AreWithin, IsWithinMax}
use Rattle.res_model.specs.Power.{has_supply, range_at, rows_of_range, flash_rows, plain_speeds, over_speeds, speeds_at, max_of, scale_limit}
use Rattle.res_model.specs.ClockValues.{hsi, ahb_dividers, apb_dividers, pll_dividers, known_steps, has_over, scale_of_step, source_number, source_of}
use Rattle.res_model.specs.Valid.{IsValid, HasOver, IsScale, IsFlashRange}
use Rattle.res_model.specs.declared.clock.ClockChoice.{ClockChoice}
use Rattle.res_model.specs.declared.clock.Facts.{Facts}
use Rattle.res_model.specs.declared.clock.Nodes.{Nodes}
use Rattle.res_model.specs.declared.clock.Src.{Src}
use Rattle.res_model.specs.declared.clock.Src.TheVariants.{Hsi, Hse, Pll}
use Rattle.res_model.specs.declared.table.FlashRange.{FlashRange}
use Rattle.res_model.specs.declared.table.Mode.{Mode}
use Rattle.res_model.specs.declared.table.Over.{Over}
use Rattle.res_model.specs.declared.table.Scale.{Scale}
use Rattle.res_model.specs.declared.table.TableParts.{TableParts}
use Rattle.reg_machine.specs.Legal.{NodesFit, IsLegal}
use Rattle.reg_machine.specs.Power.{vos_mask}
use Rattle.reg_machine.specs.Tree.{m_of, hpre_value, ppre_value, tree_of}
use Rattle.reg_machine.specs.Reset.{reset_of}
use Rattle.reg_machine.specs.Run.{Sound}
use Rattle.reg_machine.specs.declared.state.State.{State}
use Rattle.reg_machine.specs.declared.state.Target.{Target}
use Rattle.reg_machine.proofs.SoundLemmas.{sound_right}
use Rattle.init_gen.specs.Codes.{p_code, hpre_code, ppre_code, oscillator_of, vos_word, codes_of, IsSmall}
use Rattle.init_gen.specs.Good.{IsSettable, IsAllowed, IsRight}
use Rattle.init_gen.specs.PinWrites.{wanted}
use Rattle.init_gen.specs.Writes.{writes_of, target_of}
use Rattle.init_gen.specs.declared.setting.Codes.{Codes}
use Rattle.init_gen.specs.declared.setting.Setting.{Setting}
use Rattle.init_gen.specs.declared.setting.Setup.{Setup}
use Rattle.init_gen.proofs.Fitting.{has_hse, osc_of, vco_in_at, vco_at, sys_at, rows_of, Rises, CodesFit, HsiFits, TakesReset, Suits, FieldsAre}
use Rattle.init_gen.proofs.WritesLemmas.{writes_sound}

-- ---- codes and back

pub src_back : (x : Src) → source_of (source_number x) ≡ x
src_back Hsi = refl
src_back Hse = refl
src_back Pll = refl

src_small : (x : Src) → source_number x < 3
src_small Hsi = omega arith
src_small Hse = omega arith
src_small Pll = omega arith

psrc_small : (x : Src) → IsOscillator x → source_number x < 2
psrc_small Hsi o = omega arith
psrc_small Hse o = omega arith
psrc_small Pll o = absurd o

hpre_back : (d : ℕ) → Member d ahb_dividers → hpre_value (hpre_code d) ≡ d
hpre_back d m = each_in (λ x. hpre_value (hpre_code x) ≡ x) d ahb_dividers (refl, (refl, (refl, (refl, (refl, (refl, (refl, (refl, (refl, tt))))))))) m

hpre_small : (d : ℕ) → Member d ahb_dividers → hpre_code d < 16
hpre_small d m = each_in (λ x. hpre_code x < 16) d ahb_dividers (omega arith, (omega arith, (omega arith, (omega arith, (omega arith, (omega arith, (omega arith, (omega arith, (omega arith, tt))))))))) m

ppre_back : (d : ℕ) → Member d apb_dividers → ppre_value (ppre_code d) ≡ d
ppre_back d m = each_in (λ x. ppre_value (ppre_code x) ≡ x) d apb_dividers (refl, (refl, (refl, (refl, (refl, tt))))) m

ppre_small : (d : ℕ) → Member d apb_dividers → ppre_code d < 8
ppre_small d m = each_in (λ x. ppre_code x < 8) d apb_dividers (omega arith, (omega arith, (omega arith, (omega arith, (omega arith, tt))))) m

p_back : (d : ℕ) → Member d pll_dividers → 2 * (p_code d + 1) ≡ d
p_back d m = each_in (λ x. 2 * (p_code x + 1) ≡ x) d pll_dividers (refl, (refl, (refl, (refl, tt)))) m

p_small : (d : ℕ) → Member d pll_dividers → p_code d < 4
p_small d m = each_in (λ x. p_code x < 4) d pll_dividers (omega arith, (omega arith, (omega arith, (omega arith, tt)))) m

mask_small : (b : Bool) → cond b 16384 49152 < 2 ^ 16
mask_small true = omega arith
mask_small false = omega arith

sets_small : (b : Bool) → Each (λ (x : ℕ). cond b (2 - scale_of_step x) (4 - scale_of_step x) * 2 ^ 14 < 2 ^ 16) (cond b (1 ∷ 2 ∷ []) (1 ∷ 2 ∷ 3 ∷ 4 ∷ 5 ∷ []))
sets_small true = (omega arith, (omega arith, tt))
sets_small false = (omega arith, (omega arith, (omega arith, (omega arith, (omega arith, tt)))))

set_small : (version step : ℕ) → Member step (known_steps version) → vos_word version (scale_of_step step) < 2 ^ 16
set_small version step m = each_in (λ (x : ℕ). vos_word version (scale_of_step x) < 2 ^ 16) step (known_steps version) (sets_small (eqb version 1)) m

pub small : (s : Setting) → IsSettable s → IsSmall (codes_of s.version s.facts s.clock s.wait)
small s h =
    let c = h.clock in
    record {
      vos_clear = mask_small (eqb s.version 1);
      vos_set = set_small s.version s.clock.vos c.vos;
      psrc = psrc_small s.clock.psrc c.range.psrc;
      src = src_small s.clock.src;
      m = omega (arith, c.range.m.1);
      n = omega (arith, c.range.n.1);
      pcode = p_small s.clock.p c.p;
      q = omega (arith, c.range.q.1);
      hcode = hpre_small s.clock.hpre c.hpre;
      code1 = ppre_small s.clock.ppre1 c.ppre1;
      code2 = ppre_small s.clock.ppre2 c.ppre2;
      wait = h.wait;
    }

-- ---- which sources are on

has_osc : (used by : Bool) → has_hse (oscillator_of used by) ≡ used
has_osc true true = refl
has_osc true false = refl
has_osc false by = refl

or_true : (x : Bool) → (x || true) ≡ true
or_true true = refl
or_true false = refl

on_psrc : (src psrc : Src) (need by u : Bool) → IsOscillator psrc → u ≡ true
    → cond (eqb (source_number psrc) 0) true (cond (eqb (source_number psrc) 1) (has_hse (oscillator_of (is_hse src || (u && is_hse psrc)) by)) (eqb (source_number psrc) 2 && u)) ≡ true
on_psrc src Hsi need by u o e = refl
on_psrc src Hse need by u o e = has_osc (is_hse src || (u && true)) by ∙ ap (λ b. is_hse src || (b && true)) e ∙ or_true (is_hse src)
on_psrc src Pll need by u o e = absurd o

on_src : (src psrc : Src) (need by : Bool) → cond (eqb (source_number src) 0) true (cond (eqb (source_number src) 1) (has_hse (oscillator_of (is_hse src || ((is_pll src || need) && is_hse psrc)) by)) (eqb (source_number src) 2 && (is_pll src || need))) ≡ true
on_src Hsi psrc need by = refl
on_src Hse psrc need by = has_osc true by
on_src Pll psrc need by = refl

differ : {b : Bool} → b ≡ true → b ≡ false → ⊥
differ h k = cc

off_src : (src : Src) (need : Bool) (h : ℕ) (x y : Fraction) → (is_pll src || need) ≡ false → output h x (source_of (source_number src)) ≡ output h y src
off_src Hsi need h x y e = refl
off_src Hse need h x y e = refl
off_src Pll need h x y e = absurd (differ refl e)

suits_if : (used oi by : Bool) → (used ≡ true → oi ≡ true) → Suits (oscillator_of used by) oi by
suits_if true oi true h = (h refl, refl)
suits_if true oi false h = (h refl, refl)
suits_if false oi by h = tt

-- ---- rows and scales of a table

hsi_first : (p : FlashRange → Bool) (rs : List FlashRange) → Each IsFlashRange rs → 0 < length (rows_of_range (find p rs)) → hsi ≤ get_or (rows_of_range (find p rs)) 0 0
hsi_first p [] each l = absurd (omega arith)
hsi_first p (r ∷ rs) each l =
    (elim (p r) as (λ b. 0 < length (rows_of_range (cond b (Some r) (find p rs))) → hsi ≤ get_or (rows_of_range (cond b (Some r) (find p rs))) 0 0) [
      | true ↦ λ m. each.0.reset
      | false ↦ λ m. hsi_first p rs each.1 m
    ]) l

each_at : (P : ℕ → Type 0) (xs : List ℕ) (k : ℕ) → Each P xs → k < length xs → P (get_or xs k 0)
each_at P [] k h l = absurd (omega arith)
each_at P (x ∷ xs) zero h l = h.0
each_at P (x ∷ xs) (suc k) h l = each_at P xs k h.1 (omega arith)

rising : (xs : List ℕ) (k : ℕ) → Pairwise ◌<◌ xs → k < length xs → get_or xs 0 0 ≤ get_or xs k 0
rising [] k h l = absurd (omega arith)
rising (x ∷ xs) zero h l = omega arith
rising (x ∷ xs) (suc k) h l = let above : x < get_or xs k 0 = each_at (λ y. x < y) xs k h.0 (omega arith) in omega arith

rows_rise : (p : FlashRange → Bool) (rs : List FlashRange) (k : ℕ) → Each IsFlashRange rs → k < length (rows_of_range (find p rs)) → get_or (rows_of_range (find p rs)) 0 0 ≤ get_or (rows_of_range (find p rs)) k 0
rows_rise p [] k each l = absurd (omega arith)
rows_rise p (r ∷ rs) k each l =
    (elim (p r) as (λ b. k < length (rows_of_range (cond b (Some r) (find p rs))) → get_or (rows_of_range (cond b (Some r) (find p rs))) 0 0 ≤ get_or (rows_of_range (cond b (Some r) (find p rs))) k 0) [
      | true ↦ λ m. rising r.rows k each.0.ascending m
      | false ↦ λ m. rows_rise p rs k each.1 m
    ]) l

-- a scale that covers a clock covers HSI
scale_covers_hsi : (p : Scale → Bool) (ss : List Scale) (x : Fraction) → Each IsScale ss → IsWithinMax x (max_of (find p ss)) → IsWithinMax (over (whole hsi) 1) (max_of (find p ss))
scale_covers_hsi p [] x each h = absurd h
scale_covers_hsi p (s ∷ ss) x each h =
    (elim (p s) as (λ b. IsWithinMax x (max_of (cond b (Some s) (find p ss))) → IsWithinMax (over (whole hsi) 1) (max_of (cond b (Some s) (find p ss)))) [
      | true ↦ λ m. omega (arith, each.0.0)
      | false ↦ λ m. scale_covers_hsi p ss x each.1 m
    ]) h

scale_there : (v : ℕ) (ss : List Scale) → Each IsScale ss → Member v (map (λ (s : Scale). s.vos) ss) → IsWithinMax (over (whole hsi) 1) (max_of (find (λ (s : Scale). eqb s.vos v) ss))
scale_there v [] each m = absurd m
scale_there v (s ∷ ss) each m =
    (elim (eqb s.vos v) as (λ b. eqb s.vos v ≡ b → IsWithinMax (over (whole hsi) 1) (max_of (cond b (Some s) (find (λ (r : Scale). eqb r.vos v) ss)))) [
      | true ↦ λ e. omega (arith, each.0.0)
      | false ↦ λ e. elim m [
        | inl h ↦ absurd (differ (eq-eqb s.vos v (sym h)) e)
        | inr h ↦ scale_there v ss each.1 h
      ]
    ]) refl

-- a step with a limit is one of the table's
limit_member : (v : ℕ) (ss : List Scale) (x : Fraction) → IsWithinMax x (max_of (find (λ (s : Scale). eqb s.vos v) ss)) → Member v (map (λ (s : Scale). s.vos) ss)
limit_member v [] x h = absurd h
limit_member v (s ∷ ss) x h =
    (elim (eqb s.vos v) as (λ b. eqb s.vos v ≡ b → IsWithinMax x (max_of (cond b (Some s) (find (λ (r : Scale). eqb r.vos v) ss))) → Member v (s.vos ∷ map (λ (r : Scale). r.vos) ss)) [
      | true ↦ λ e m. inl (sym (eqb-true s.vos v e))
      | false ↦ λ e m. inr (limit_member v ss x m)
    ]) refl h

-- the limits of SYSCLK and the buses are not below the HSI, at no power step
record AreAbove (o : Over) : Type 0 where
  pub sysclk : hsi ≤ o.sysclk
  pub pclk1 : hsi ≤ o.pclk1
  pub pclk2 : hsi ≤ o.pclk2

above_if : (b : Bool) (version : ℕ) (o : Option Over) (plain : Over) → AreAbove plain → HasOver version o → AreAbove (cond b (over_speeds o plain) plain)
above_if true version None plain p h = p
above_if true version (Some o) plain p h = record { sysclk = h.1.reset_sysclk; pclk1 = h.1.reset_pclk1; pclk2 = h.1.reset_pclk2 }
above_if false version o plain p h = p

above : (t : TableParts) → IsValid t → (step : ℕ) → AreAbove (speeds_at t step)
unfolding speeds_at
above t valid step =
    above_if (has_over step) t.version t.over (plain_speeds t.limits)
    (record { sysclk = valid.limits.reset_sysclk; pclk1 = valid.limits.reset_pclk1; pclk2 = valid.limits.reset_pclk2 }) valid.over

-- ---- what is wanted of each place
pub link : (pins : List (Option Setup)) (p : ℕ) → ◌≡◌ {A = Option Mode} (get_or (map wanted pins) p None) (wanted (get_or pins p None))
link [] p = refl
link (o ∷ pins) zero = refl
link (o ∷ pins) (suc p) = link pins p

module _ (t : TableParts) (valid : IsValid t) (s : Setting) (h : IsSettable s) (a : IsAllowed t s) where
  abbrev f : Facts
  f = s.facts

  abbrev c : ClockChoice
  c = s.clock

  abbrev k : Codes
  k = codes_of s.version s.facts s.clock s.wait

  abbrev want : Target
  want = target_of s

  abbrev sys : Fraction
  sys = sysclk_of s.facts s.clock

  hsi_row : IsAtMost (over (whole hsi) 1) (whole (get_or (flash_rows t s.facts.vdd) 0 0))
  unfolding range_at
  hsi_row = let least : hsi ≤ get_or (flash_rows t s.facts.vdd) 0 0 = hsi_first (has_supply s.facts.vdd) t.flash valid.flash.each (omega (arith, a.row.0)) in omega arith

  first_there : 0 < length (flash_rows t s.facts.vdd)
  first_there = omega (arith, a.row.0)

  hsi_nodes : (v : ℕ) → IsWithinMax (over (whole hsi) 1) (scale_limit t v) → HsiFits t want v
  hsi_nodes v within =
      let up = above t valid v in
      record {
        sysclk_within = omega (arith, up.sysclk);
        scale_covers = within;
        row_is_there = first_there;
        row_covers = hsi_row;
        pclk1_within = omega (arith, up.pclk1);
        pclk2_within = omega (arith, up.pclk2);
      }

  scale_1 : IsWithinMax (over (whole hsi) 1) (scale_limit t 1)
  unfolding scale_limit
  scale_1 = scale_there 1 t.scales valid.scales.each (subst (Member 1) (sym valid.scales.order) valid.clock.vos_one)

  -- scale 2 is there where scale 2 with over-drive is
  scale_2 : s.clock.vos ≡ 5 → IsWithinMax (over (whole hsi) 1) (scale_limit t 2)
  unfolding scale_limit
  scale_2 is =
      let there : Member s.clock.vos t.clock.vos = subst (Member s.clock.vos) valid.scales.order (limit_member s.clock.vos t.scales _ a.scale) in
      let two : Member 2 t.clock.vos = valid.clock.vos_two (subst (λ (v : ℕ). Member v t.clock.vos) is there) in
      scale_there 2 t.scales valid.scales.each (subst (Member 2) (sym valid.scales.order) two)

  scale_of : (v : ℕ) (x : Fraction) → IsWithinMax x (scale_limit t v) → IsWithinMax (over (whole hsi) 1) (scale_limit t v)
  unfolding scale_limit
  scale_of v x within = scale_covers_hsi (λ (r : Scale). eqb r.vos v) t.scales x valid.scales.each within

  rises : Rises (rows_of t want) s.wait
  unfolding range_at
  rises = record { there = a.row.0; above = rows_rise (has_supply s.facts.vdd) t.flash s.wait valid.flash.each a.row.0 }

  scale_if : (four five : Bool) → eqb s.clock.vos 4 ≡ four → eqb s.clock.vos 5 ≡ five → IsWithinMax (over (whole hsi) 1) (scale_limit t (cond four 1 (cond five 2 s.clock.vos)))
  scale_if true five e d = scale_1
  scale_if false true e d = scale_2 (eqb-true s.clock.vos 5 d)
  scale_if false false e d = scale_of s.clock.vos _ a.scale

  takes : TakesReset t want k
  takes = record {
    first = hsi_nodes 1 scale_1;
    scale = hsi_nodes (scale_of_step s.clock.vos) (scale_if (eqb s.clock.vos 4) (eqb s.clock.vos 5) refl refl);
    step = hsi_nodes s.clock.vos (scale_of s.clock.vos _ a.scale);
    rises = rises;
  }

  chosen_nodes : NodesFit (speeds_at t s.clock.vos) (scale_limit t s.clock.vos) (rows_of t want) s.wait sys s.clock.hpre s.clock.ppre1 s.clock.ppre2
  chosen_nodes = record { sysclk_within = a.sysclk; scale_covers = a.scale; row_is_there = a.row.0; row_covers = a.row.1; pclk1_within = a.pclk1; pclk2_within = a.pclk2 }

  code_nodes : NodesFit (speeds_at t k.step) (scale_limit t k.step) (rows_of t want) s.wait sys (hpre_value k.hcode) (ppre_value k.code1) (ppre_value k.code2)
  code_nodes =
      subst (λ d. NodesFit (speeds_at t s.clock.vos) (scale_limit t s.clock.vos) (rows_of t want) s.wait sys d (ppre_value k.code1) (ppre_value k.code2)) (sym (hpre_back s.clock.hpre h.clock.hpre))
      (subst (λ d. NodesFit (speeds_at t s.clock.vos) (scale_limit t s.clock.vos) (rows_of t want) s.wait sys s.clock.hpre d (ppre_value k.code2)) (sym (ppre_back s.clock.ppre1 h.clock.ppre1))
      (subst (λ d. NodesFit (speeds_at t s.clock.vos) (scale_limit t s.clock.vos) (rows_of t want) s.wait sys s.clock.hpre s.clock.ppre1 d) (sym (ppre_back s.clock.ppre2 h.clock.ppre2)) chosen_nodes))

  fits : CodesFit t want sys k
  fits = record {
    m_least = h.clock.range.m.0;
    n_least = h.clock.range.n.0;
    n_most = h.clock.range.n.1;
    q_least = h.clock.range.q.0;
    psrc_on = λ e. on_psrc s.clock.src s.clock.psrc s.facts.need48 s.facts.bypass (pll_used s.facts s.clock) h.clock.range.psrc e;
    src_on = on_src s.clock.src s.clock.psrc s.facts.need48 s.facts.bypass;
    vco_in = λ e. subst (λ x. AreWithin t.limits.vco_in (over (output s.facts.hse_hz (whole hsi) x) s.clock.m)) (sym (src_back s.clock.psrc)) (a.vco_in e);
    vco = λ e. subst (λ x. AreWithin t.limits.vco (times (over (output s.facts.hse_hz (whole hsi) x) s.clock.m) s.clock.n)) (sym (src_back s.clock.psrc)) (a.vco e);
    sys_on = λ e.
        ap (λ x. output s.facts.hse_hz (over (times (over (output s.facts.hse_hz (whole hsi) x) s.clock.m) s.clock.n) (2 * (k.pcode + 1))) (source_of k.src)) (src_back s.clock.psrc)
        ∙ ap (λ p. output s.facts.hse_hz (over (vco_of s.facts s.clock) p) (source_of k.src)) (p_back s.clock.p h.clock.p)
        ∙ ap (λ x. output s.facts.hse_hz (system_output_of s.facts s.clock) x) (src_back s.clock.src);
    sys_off = λ e pll. off_src s.clock.src s.facts.need48 s.facts.hse_hz pll (system_output_of s.facts s.clock) e;
    nodes = code_nodes;
    over_is = refl;
    scale_is = refl;
    over_pll = λ e. a.over e;
  }

  suits : Suits k.oscillator s.facts.osc_in s.facts.bypass
  suits = suits_if (hse_used s.facts s.clock) s.facts.osc_in s.facts.bypass (λ e. (a.hse e).0)

  -- ---- the tree at the end

  abbrev made : Option Fraction → Option Fraction → Option Fraction → Fraction → ℕ → ℕ → ℕ → Nodes
  made vin vco c48 x d d1 d2 = record {
    vco_in = vin;
    vco = vco;
    sysclk = x;
    hclk = over x d;
    pclk1 = over (over x d) d1;
    pclk2 = over (over x d) d2;
    tim1 = timer d1 (over (over x d) d1);
    tim2 = timer d2 (over (over x d) d2);
    clk48 = c48;
  }

  made_same : (v0 v1 w0 w1 q0 q1 : Option Fraction) (x0 x1 : Fraction) (d0 d1 e0 e1 g0 g1 : ℕ) → v0 ≡ v1 → w0 ≡ w1 → q0 ≡ q1 → x0 ≡ x1 → d0 ≡ d1 → e0 ≡ e1 → g0 ≡ g1 → made v0 w0 q0 x0 d0 e0 g0 ≡ made v1 w1 q1 x1 d1 e1 g1
  made_same v0 v1 w0 w1 q0 q1 x0 x1 d0 d1 e0 e1 g0 g1 ev ew eq ex ed ee eg =
      ap (λ v. made v w0 q0 x0 d0 e0 g0) ev ∙ ap (λ w. made v1 w q0 x0 d0 e0 g0) ew ∙ ap (λ q. made v1 w1 q x0 d0 e0 g0) eq
      ∙ ap (λ x. made v1 w1 q1 x d0 e0 g0) ex ∙ ap (λ d. made v1 w1 q1 x1 d e0 g0) ed ∙ ap (λ e. made v1 w1 q1 x1 d1 e g0) ee ∙ ap (λ g. made v1 w1 q1 x1 d1 e1 g) eg

  used_same : (u b : Bool) (x y : Fraction) → u ≡ b → (b ≡ true → x ≡ y) → where_used u x ≡ where_used b y
  used_same u true x y e g = ap (λ z. where_used z x) e ∙ ap (λ z. where_used true z) (g refl)
  used_same u false x y e g = ap (λ z. where_used z x) e

  module _ (u : State) (r : FieldsAre want sys k u) where
    vco_in_same : pll_used s.facts s.clock ≡ true → vco_in_at s.facts u.pllcfgr ≡ vco_in_of s.facts s.clock
    vco_in_same e =
        ap (λ x. over (osc_of s.facts x) (m_of u.pllcfgr)) (r.pll e).psrc
        ∙ ap (λ m. over (osc_of s.facts (source_number s.clock.psrc)) m) (r.pll e).m
        ∙ ap (λ x. over (output s.facts.hse_hz (whole hsi) x) s.clock.m) (src_back s.clock.psrc)

    vco_same : pll_used s.facts s.clock ≡ true → vco_at s.facts u.pllcfgr ≡ vco_of s.facts s.clock
    vco_same e = ap (λ n. times (vco_in_at s.facts u.pllcfgr) n) (r.pll e).n ∙ ap (λ x. times x s.clock.n) (vco_in_same e)

    tree_same : tree_of s.facts u ≡ nodes_of s.facts s.clock
    unfolding nodes_of
    tree_same = made_same _ _ _ _ _ _ _ _ _ _ _ _ _ _
        (used_same (bit_of 24 u.cr) (pll_used s.facts s.clock) _ _ r.pll_on vco_in_same)
        (used_same (bit_of 24 u.cr) (pll_used s.facts s.clock) _ _ r.pll_on vco_same)
        (used_same (bit_of 24 u.cr) (pll_used s.facts s.clock) _ _ r.pll_on (λ e. ap (λ q. over (vco_at s.facts u.pllcfgr) q) (r.pll e).q ∙ ap (λ x. over x s.clock.q) (vco_same e)))
        (ap (sys_at s.facts u.pllcfgr) r.source ∙ r.sysclk)
        (r.hpre ∙ hpre_back s.clock.hpre h.clock.hpre)
        (r.ppre1 ∙ ppre_back s.clock.ppre1 h.clock.ppre1)
        (r.ppre2 ∙ ppre_back s.clock.ppre2 h.clock.ppre2)

    right : IsRight s u
    right = record { nodes = tree_same; power = r.power; modes = r.modes }

  pub setting_sound : Sound (IsLegal t (target_of s)) (IsRight s) (writes_of s) (reset_of t (target_of s))
  setting_sound =
      sound_right (IsLegal t want) (FieldsAre want sys k) (IsRight s) (writes_of s) (reset_of t want) right
      (subst (λ pf. Sound (IsLegal t want) (FieldsAre want sys k) (writes_of s) (record (reset_of t want) { prefetch = pf })) a.prefetch
      (writes_sound s.prefetch s.facts.osc_in s.facts.bypass t.version t want sys k (small s h) takes s.pins (link s.pins) fits h.pins suits (ap vos_mask a.version) (ap (λ (n : ℕ). vos_word n k.scale) a.version) (subst (λ (n : ℕ). Member s.clock.vos (known_steps n)) a.version h.clock.vos)))
