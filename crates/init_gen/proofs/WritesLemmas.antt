-- The scale, the HSE, the PLL and over-drive in front of the rest, for each use of them; and the whole list.
use Rattle.std.proofs.Common.{◌≡◌, ℕ, ◌+◌, ◌*◌, ◌-◌, ◌/◌, ◌%◌, ◌^◌, ◌<◌, ◌≤◌, List, [], ◌∷◌, get_or, Some, None, Bool, true, false, ◌&&◌, ◌||◌, cond, eqb, Option, ◌⊎◌, inl, inr, refl, sym, subst, ap, ◌∙◌, arith}
use Rattle.std.proofs.lemmas.Bool.Decides.{eqb_tells}
use Rattle.res_base.specs.Lists.{Member}
use Rattle.reg_map.specs.declared.register.Reg.TheVariants as reg
use Rattle.reg_machine.specs.declared.op.Timeout.TheVariants as timeout
use Rattle.reg_machine.specs.declared.op.Op.{Op}
use Rattle.reg_machine.specs.declared.op.Op.TheVariants as op
use Rattle.reg_machine.specs.declared.op.Answer.{Answer}
use Rattle.init_gen.specs.declared.setting.Setup.{Setup}
use Rattle.reg_machine.specs.declared.state.State.{State}
use Rattle.reg_machine.specs.declared.op.Stepped.TheVariants as stepped
use Rattle.init_gen.specs.declared.setting.Codes.{Codes}
use Rattle.init_gen.specs.declared.setting.Oscillator.{Oscillator}
use Rattle.init_gen.specs.declared.setting.Oscillator.TheVariants as oscillator
use Rattle.reg_machine.specs.Words.{is_whole}
use Rattle.reg_machine.specs.Step.{flags, act}
use Rattle.reg_machine.specs.Run.{after, Sound}
use Rattle.init_gen.specs.PinWrites.{wanted, AreWhole, gpio_section}
use Rattle.res_base.specs.Fraction.{Fraction, times, over}
use Rattle.res_model.specs.Clock.{output}
use Rattle.res_model.specs.Limits.{AreWithin}
use Rattle.res_model.specs.ClockValues.{has_over, known_steps, scale_of_step, source_of}
use Rattle.res_model.specs.declared.table.Mode.{Mode}
use Rattle.res_model.specs.declared.table.TableParts.{TableParts}
use Rattle.reg_machine.specs.declared.state.Target.{Target}
use Rattle.reg_machine.specs.Power.{vos_mask, step_from}
use Rattle.reg_machine.specs.Tree.{m_of, n_of, p_of}
use Rattle.reg_machine.specs.Legal.{IsLegal}
use Rattle.init_gen.specs.Writes.{vos_ops, hse_ops, pll_ops, over_ops, late_ops, pll_word}
use Rattle.init_gen.specs.Codes.{IsSmall, vos_word}
use Rattle.init_gen.proofs.Fitting.{CodesFit, TakesReset, TakesNow, OverStays, Suits, FieldsAre, has_hse, is_on, step_now, osc_of, vco_in_at, vco_at, sys_at}
use Rattle.reg_machine.proofs.SoundLemmas.{sound_op, sound_await}
use Rattle.init_gen.proofs.ClockLemmas.{m_is, n_is, pcode_is, psrc_is, q_is, whole_is}
use Rattle.init_gen.proofs.LateLemmas.{at, flags_to, first_row, legal_hsi, late_sound, Stays, same_if, below, not_below, comes_to, none_comes, off_stays}
use Rattle.init_gen.proofs.OverLemmas.{word0, takes_now, over_sound}

-- RCC_CR with the PLL off, and on
cr_of : Oscillator → ℕ
cr_of oscillator.Off = 129
cr_of oscillator.Crystal = 65665
cr_of oscillator.Bypass = 327809

cr_pll : Oscillator → ℕ
cr_pll oscillator.Off = 16777345
cr_pll oscillator.Crystal = 16842881
cr_pll oscillator.Bypass = 17105025

hse_off : (o : Oscillator) (a : Answer) → (has_hse o || (a.hse && eqb (cr_of o / 2 ^ 16 % 2) 1)) ≡ has_hse o
unfolding cr_of
hse_off oscillator.Off a = none_comes false a.hse
hse_off oscillator.Crystal a = refl
hse_off oscillator.Bypass a = refl

hse_on : (o : Oscillator) (a : Answer) → (has_hse o || (a.hse && eqb (cr_pll o / 2 ^ 16 % 2) 1)) ≡ has_hse o
unfolding cr_pll
hse_on oscillator.Off a = none_comes false a.hse
hse_on oscillator.Crystal a = refl
hse_on oscillator.Bypass a = refl

bit_off : (o : Oscillator) → eqb (cr_of o / 2 ^ 24 % 2) 1 ≡ false
unfolding cr_of
bit_off oscillator.Off = refl
bit_off oscillator.Crystal = refl
bit_off oscillator.Bypass = refl

bit_on : (o : Oscillator) → eqb (cr_pll o / 2 ^ 24 % 2) 1 ≡ true
unfolding cr_pll
bit_on oscillator.Off = refl
bit_on oscillator.Crystal = refl
bit_on oscillator.Bypass = refl

-- a PLL that is off stays off
pll_off : (o : Oscillator) (a : Answer) (x : Bool) → (false || (a.pll && (eqb (cr_of o / 2 ^ 24 % 2) 1 && x))) ≡ false
pll_off o a x = ap (λ b. false || (a.pll && (b && x))) (bit_off o) ∙ none_comes false a.pll

on_form : ℕ → Bool → Bool → Bool
on_form s h p = cond (eqb s 0) true (cond (eqb s 1) h (eqb s 2 && p))

-- the PLL's source: what a flag and what the rule see
source_flag : (s : ℕ) (h p : Bool) → on_form s h p ≡ true → cond (eqb s 1) h true ≡ true
unfolding on_form
source_flag s h p e = elim (eqb_tells s 1) [
  | inl y ↦ ap (λ b. cond b h true) y.0 ∙ subst (λ x. cond (eqb x 0) true (cond (eqb x 1) h (eqb x 2 && p)) ≡ true) y.1 e
  | inr n ↦ ap (λ b. cond b h true) n.0
]

source_rule : (s : ℕ) (h p : Bool) → s < 2 → on_form s h p ≡ true → on_form s h false ≡ true
unfolding on_form
source_rule s h p l e = elim (eqb_tells s 2) [
  | inl y ↦ absurd (omega (arith, y.1))
  | inr n ↦ ap (λ b. cond (eqb s 0) true (cond (eqb s 1) h (b && false))) n.0 ∙ sym (ap (λ b. cond (eqb s 0) true (cond (eqb s 1) h (b && p))) n.0) ∙ e
]

-- PWR_CR can be written, and VOS names a scale that over-drive takes
pub record CanOver (vn ax ay pw : ℕ) (c : Codes) : Type 0 where
  pub two : eqb vn 1 ≡ false
  pub enabled : eqb (ax / 2 ^ 28 % 2) 1 ≡ true
  pub noted : eqb (ay / 2 ^ 28 % 2) 1 ≡ true
  pub which : Bool
  pub word : pw ≡ word0 which
  pub scale : c.scale ≡ cond which 1 2
  pub step : c.step ≡ cond which 4 5

-- the scale of a step without over-drive is the step
no_over : (step : ℕ) → has_over step ≡ false → scale_of_step step ≡ step
no_over step e = no_if (eqb step 4) (eqb step 5) refl refl e
  where
    no_if : (a b : Bool) → eqb step 4 ≡ a → eqb step 5 ≡ b → (a || b) ≡ false → cond (eqb step 4) 1 (cond (eqb step 5) 2 step) ≡ step
    no_if true b p q h = absurd cc
    no_if false true p q h = absurd cc
    no_if false false p q h = rw (p, q) refl

module _ (pf oi by : Bool) (ax ay pw vn : ℕ) (os : OverStays pw false false) (tb : TableParts) (want : Target) (sys : Fraction) (c : Codes) (f : IsSmall c) (t : TakesReset tb want c) (hn : TakesNow tb want vn pw false) (pins : List (Option Setup)) (link : (p : ℕ) → ◌≡◌ {A = Option Mode} (get_or want.pins p None) (wanted (get_or pins p None))) (g : CodesFit tb want sys c) (whole_pins : AreWhole pins) (sc : step_now vn pw false ≡ Some c.scale) (can : c.over ≡ true → CanOver vn ax ay pw c) where
  abbrev v : ℕ
  v = pll_word c

  S : List Op → State → Type 0
  S ops s = Sound (IsLegal tb want) (FieldsAre want sys c) ops s

  late : List Op
  late = late_ops pf c (gpio_section pins)

  -- over-drive, and then the rest
  then_late : List Op
  then_late = over_ops c.over late

  -- without over-drive the step is the scale
  plain : c.over ≡ false → step_now vn pw false ≡ Some c.step
  plain e = sc ∙ ap Some (g.scale_is ∙ no_over c.step (sym g.over_is ∙ e))

  -- the PLL is off for good
  stays_off : c.pll ≡ false → Stays tb want sys c (cr_of c.oscillator) 603992080 (has_hse c.oscillator) false
  unfolding on_form
  stays_off e =
      let src_on : on_form c.src (has_hse c.oscillator) false ≡ true = subst (λ b. on_form c.src (has_hse c.oscillator) b ≡ true) e g.src_on in
      record {
        hse_stays = hse_off c.oscillator;
        pll_stays = λ a. pll_off c.oscillator a _;
        vco_in = λ h. absurd (both h (bit_off c.oscillator));
        vco = λ h. absurd (both h (bit_off c.oscillator));
        ready = src_on;
        sysclk = g.sys_off e (over (vco_at want.facts 603992080) (p_of 603992080));
        pll_on = bit_off c.oscillator ∙ sym e;
        pll_is = λ h. absurd (both h e);
      }
    where
      both : {b : Bool} → b ≡ true → b ≡ false → ⊥
      both h k = cc

  vco_in_good : c.pll ≡ true → AreWithin tb.limits.vco_in (vco_in_at want.facts v)
  vco_in_good e =
      subst (λ s. AreWithin tb.limits.vco_in (over (osc_of want.facts s) (m_of v))) (sym (psrc_is c f))
      (subst (λ m. AreWithin tb.limits.vco_in (over (osc_of want.facts c.psrc) m)) (sym (m_is c f)) (g.vco_in e))

  vco_good : c.pll ≡ true → AreWithin tb.limits.vco (vco_at want.facts v)
  vco_good e =
      subst (λ s. AreWithin tb.limits.vco (times (over (osc_of want.facts s) (m_of v)) (n_of v))) (sym (psrc_is c f))
      (subst (λ m. AreWithin tb.limits.vco (times (over (osc_of want.facts c.psrc) m) (n_of v))) (sym (m_is c f))
      (subst (λ n. AreWithin tb.limits.vco (times (over (osc_of want.facts c.psrc) c.m) n)) (sym (n_is c f)) (g.vco e)))

  p_is : p_of v ≡ 2 * (c.pcode + 1)
  p_is = ap (λ p. 2 * (p + 1)) (pcode_is c f)

  sys_is : sys_at want.facts v c.src ≡ output want.facts.hse_hz (over (times (over (osc_of want.facts c.psrc) c.m) c.n) (2 * (c.pcode + 1))) (source_of c.src)
  sys_is =
      ap (λ s. output want.facts.hse_hz (over (times (over (osc_of want.facts s) (m_of v)) (n_of v)) (p_of v)) (source_of c.src)) (psrc_is c f)
      ∙ ap (λ m. output want.facts.hse_hz (over (times (over (osc_of want.facts c.psrc) m) (n_of v)) (p_of v)) (source_of c.src)) (m_is c f)
      ∙ ap (λ n. output want.facts.hse_hz (over (times (over (osc_of want.facts c.psrc) c.m) n) (p_of v)) (source_of c.src)) (n_is c f)
      ∙ ap (λ p. output want.facts.hse_hz (over (times (over (osc_of want.facts c.psrc) c.m) c.n) p) (source_of c.src)) p_is

  -- the PLL is on for good
  stays_on : c.pll ≡ true → Stays tb want sys c (cr_pll c.oscillator) v (has_hse c.oscillator) true
  unfolding on_form
  stays_on e = record {
    hse_stays = hse_on c.oscillator;
    pll_stays = λ a. refl;
    vco_in = λ h. vco_in_good e;
    vco = λ h. vco_good e;
    ready = subst (λ b. on_form c.src (has_hse c.oscillator) b ≡ true) e g.src_on;
    sysclk = sys_is ∙ g.sys_on e;
    pll_on = bit_on c.oscillator ∙ sym e;
    pll_is = λ h. record { psrc = psrc_is c f; m = m_is c f; n = n_is c f; p = p_is; q = q_is c f };
  }

  -- ---- the PLL
  state3 : Oscillator → ℕ → State
  state3 o x = at pf oi by ax ay pw vn false false (cr_of o) x 0 0 (has_hse o) false 0 0 false 0

  state5 : Oscillator → Bool → ℕ → State
  state5 o b p = at pf oi by ax ay pw vn false false (cr_pll o) v 0 0 (has_hse o) b 0 0 false p

  flags3 : (o : Oscillator) (x : ℕ) (a : Answer) → flags a (state3 o x) ≡ state3 o x
  unfolding state3
  flags3 o x a = flags_to pf oi by ax ay pw vn false false os a (cr_of o) x 0 0 (has_hse o) false 0 0 false 0 (has_hse o) false 0 0 (hse_off o a) (pll_off o a _) (same_if a.latency 0) (same_if a.switch 0)

  legal3 : (o : Oscillator) (x : ℕ) → IsLegal tb want (state3 o x)
  unfolding state3
  legal3 o x = legal_hsi pf oi by ax ay pw vn false false tb want sys c f t hn (cr_of o) x 0 0 (has_hse o) false 0 false 0 refl (first_row pf oi by ax ay pw vn false false tb want sys c f t hn) (λ h. absurd (both h (bit_off o))) (λ h. absurd (both h (bit_off o))) where
    both : {b : Bool} → b ≡ true → b ≡ false → ⊥
    both h k = cc

  op3 : Op
  op3 = op.Write reg.Pllcfgr v

  op4 : Op
  op4 = op.Modify reg.Cr 0 16777216

  op5 : Op
  op5 = op.Await reg.Cr 33554432 33554432 10000 timeout.Pll

  is_whole_v : is_whole v ≡ true
  is_whole_v = whole_is c f g.m_least g.n_least g.n_most g.q_least

  stored3 : (o : Oscillator) → act (state3 o 603992080) op3 ≡ (stepped.Went, state3 o v)
  unfolding state3 op3 cr_of
  stored3 oscillator.Off = rw (is_whole_v) refl
  stored3 oscillator.Crystal = rw (is_whole_v) refl
  stored3 oscillator.Bypass = rw (is_whole_v) refl

  stored4 : (o : Oscillator) → on_form c.psrc (has_hse o) false ≡ true → act (state3 o v) op4 ≡ (stepped.Went, state5 o false 0)
  unfolding state3 state5 op4 cr_of cr_pll on_form
  stored4 oscillator.Off e = rw (psrc_is c f, e, is_whole_v) refl
  stored4 oscillator.Crystal e = rw (psrc_is c f, e, is_whole_v) refl
  stored4 oscillator.Bypass e = rw (psrc_is c f, e, is_whole_v) refl

  flags5 : (o : Oscillator) → cond (eqb c.psrc 1) (has_hse o) true ≡ true → (a : Answer) (b : Bool) (p : ℕ) → flags a (state5 o b p) ≡ state5 o (a.pll || b) p
  unfolding state5
  flags5 o e a b p =
      let h = has_hse o || (a.hse && eqb (cr_pll o / 2 ^ 16 % 2) 1) in
      flags_to pf oi by ax ay pw vn false false os a (cr_pll o) v 0 0 (has_hse o) b 0 0 false p (has_hse o) (a.pll || b) 0 0 (hse_on o a)
      (ap (λ z. b || (a.pll && (z && cond (eqb (v / 2 ^ 22 % 2) 1) h true))) (bit_on o)
      ∙ ap (λ s. b || (a.pll && cond (eqb s 1) h true)) (psrc_is c f)
      ∙ ap (λ z. b || (a.pll && cond (eqb c.psrc 1) z true)) (hse_on o a)
      ∙ ap (λ z. b || (a.pll && z)) e ∙ comes_to b a.pll)
      (same_if a.latency 0) (same_if a.switch 0)

  legal5 : c.pll ≡ true → (o : Oscillator) (b : Bool) (p : ℕ) → IsLegal tb want (state5 o b p)
  unfolding state5
  legal5 e o b p = legal_hsi pf oi by ax ay pw vn false false tb want sys c f t hn (cr_pll o) v 0 0 (has_hse o) b 0 false p refl (first_row pf oi by ax ay pw vn false false tb want sys c f t hn) (λ h. vco_in_good e) (λ h. vco_good e)

  polls5 : (o : Oscillator) (b : Bool) (p : ℕ) → (state5 o b p).polls ≡ p
  unfolding state5
  polls5 o b p = refl

  goes5 : (o : Oscillator) (p : ℕ) → act (state5 o true p) op5 ≡ (stepped.Went, state5 o true 0)
  unfolding state5 op5 cr_pll
  goes5 oscillator.Off p = refl
  goes5 oscillator.Crystal p = refl
  goes5 oscillator.Bypass p = refl

  waits5 : (o : Oscillator) (p : ℕ) → p + 1 < 10000 → act (state5 o false p) op5 ≡ (stepped.Waiting, state5 o false (p + 1))
  unfolding state5 op5 cr_pll
  waits5 oscillator.Off p l = rw (below (p + 1) 10000 l) refl
  waits5 oscillator.Crystal p l = rw (below (p + 1) 10000 l) refl
  waits5 oscillator.Bypass p l = rw (below (p + 1) 10000 l) refl

  out5 : (o : Oscillator) (p : ℕ) → 10000 ≤ p + 1 → act (state5 o false p) op5 ≡ (stepped.TimedOut timeout.Pll, state5 o false 0)
  unfolding state5 op5 cr_pll
  out5 oscillator.Off p l = rw (not_below (p + 1) 10000 l) refl
  out5 oscillator.Crystal p l = rw (not_below (p + 1) 10000 l) refl
  out5 oscillator.Bypass p l = rw (not_below (p + 1) 10000 l) refl

  over_from : (word : ℕ) (d : CanOver vn ax ay word c) → c.pll ≡ true → Sound (IsLegal tb want) (FieldsAre want sys c) (over_ops true late) (at pf oi by ax ay (word0 d.which) vn false false (cr_pll c.oscillator) v 0 0 (has_hse c.oscillator) true 0 0 false 0)
  unfolding late
  over_from word d e =
      over_sound pf oi by ax ay vn d.two d.enabled d.noted tb want sys c f t pins link g whole_pins (cr_pll c.oscillator) v (has_hse c.oscillator) (stays_on e) (bit_on c.oscillator) d.which d.scale d.step

  over_if : (b : Bool) → c.over ≡ b → c.pll ≡ true → S (over_ops b late) (state5 c.oscillator true 0)
  unfolding S late state5
  over_if true o e =
      let d = can o in
      subst (λ (word : ℕ). Sound (IsLegal tb want) (FieldsAre want sys c) (over_ops true late) (at pf oi by ax ay word vn false false (cr_pll c.oscillator) v 0 0 (has_hse c.oscillator) true 0 0 false 0)) (sym d.word) (over_from pw d e)
  over_if false o e = late_sound pf oi by ax ay pw vn false false tb want sys c f t hn pins link g whole_pins (cr_pll c.oscillator) v (has_hse c.oscillator) true (stays_on e) os (plain o)

  sound6 : c.pll ≡ true → S then_late (state5 c.oscillator true 0)
  unfolding then_late
  sound6 e = over_if c.over refl e

  to_form : is_on c c.psrc ≡ true → on_form c.psrc (has_hse c.oscillator) c.pll ≡ true
  unfolding on_form
  to_form h = h

  sound3 : c.pll ≡ true → S (op3 ∷ op4 ∷ op5 ∷ then_late) (state3 c.oscillator 603992080)
  unfolding S
  sound3 e =
      let on : on_form c.psrc (has_hse c.oscillator) c.pll ≡ true = to_form (g.psrc_on e) in
      let o = c.oscillator in
      let five = sound_await (IsLegal tb want) (FieldsAre want sys c) (state5 o) (λ a. a.pll) op5 then_late 10000 timeout.Pll (record {
        flags_are = flags5 o (source_flag c.psrc (has_hse o) c.pll on);
        comes = λ a h q l x y z. q;
        polls_are = polls5 o;
        goes_on = goes5 o;
        waits = waits5 o;
        times_out = out5 o;
        is_legal = legal5 e o;
        rest = sound6 e;
      }) false 0 (omega arith) in
      let four = sound_op (IsLegal tb want) (FieldsAre want sys c) op4 (op5 ∷ then_late) (state3 o v) (λ a. state5 o false 0) (legal3 o v)
      (λ a. subst (IsLegal tb want) (sym (flags3 o v a)) (legal3 o v))
      (λ a. ap (λ u. after op4 (op5 ∷ then_late) (act u op4)) (flags3 o v a) ∙ ap (after op4 (op5 ∷ then_late)) (stored4 o (source_rule c.psrc (has_hse o) c.pll f.psrc on)))
      (λ a. five) in
      sound_op (IsLegal tb want) (FieldsAre want sys c) op3 (op4 ∷ op5 ∷ then_late) (state3 o 603992080) (λ a. state3 o v) (legal3 o 603992080)
      (λ a. subst (IsLegal tb want) (sym (flags3 o 603992080 a)) (legal3 o 603992080))
      (λ a. ap (λ u. after op3 (op4 ∷ op5 ∷ then_late) (act u op3)) (flags3 o 603992080 a) ∙ ap (after op3 (op4 ∷ op5 ∷ then_late)) (stored3 o))
      (λ a. four)

  -- over-drive runs beside the PLL alone
  off_if : (b : Bool) → c.over ≡ b → c.pll ≡ false → S (over_ops b late) (state3 c.oscillator 603992080)
  unfolding S late state3
  off_if true o e = absurd (not_both (g.over_pll o) e)
    where
      not_both : {b : Bool} → b ≡ true → b ≡ false → ⊥
      not_both h k = cc
  off_if false o e = late_sound pf oi by ax ay pw vn false false tb want sys c f t hn pins link g whole_pins (cr_of c.oscillator) 603992080 (has_hse c.oscillator) false (stays_off e) os (plain o)

  sound_off : c.pll ≡ false → S then_late (state3 c.oscillator 603992080)
  unfolding then_late
  sound_off e = off_if c.over refl e

  pll_if : (b : Bool) → c.pll ≡ b → S (cond b (op3 ∷ op4 ∷ op5 ∷ then_late) then_late) (state3 c.oscillator 603992080)
  pll_if true e = sound3 e
  pll_if false e = sound_off e

  ops3 : List Op
  ops3 = pll_ops c then_late

  pll_sound : S ops3 (state3 c.oscillator 603992080)
  unfolding ops3 op3 op4 op5
  pll_sound = pll_if c.pll refl

  -- ---- HSE
  state1 : ℕ → State
  state1 cr = at pf oi by ax ay pw vn false false cr 603992080 0 0 false false 0 0 false 0

  state2 : ℕ → Bool → ℕ → State
  state2 cr b p = at pf oi by ax ay pw vn false false cr 603992080 0 0 b false 0 0 false p

  -- before HSEON
  flags1 : (cr : ℕ) → eqb (cr / 2 ^ 16 % 2) 1 ≡ false → eqb (cr / 2 ^ 24 % 2) 1 ≡ false → (a : Answer) → flags a (state1 cr) ≡ state1 cr
  unfolding state1
  flags1 cr e d a =
      let h = a.hse && eqb (cr / 2 ^ 16 % 2) 1 in
      flags_to pf oi by ax ay pw vn false false os a cr 603992080 0 0 false false 0 0 false 0 false false 0 0
      (ap (λ b. false || (a.hse && b)) e ∙ none_comes false a.hse)
      (ap (λ b. false || (a.pll && (b && cond (eqb (603992080 / 2 ^ 22 % 2) 1) h true))) d ∙ none_comes false a.pll)
      (same_if a.latency 0) (same_if a.switch 0)

  not_on : (b : Bool) → b ≡ true → b ≡ false → ⊥
  not_on b h k = cc

  legal1 : (cr : ℕ) → eqb (cr / 2 ^ 24 % 2) 1 ≡ false → IsLegal tb want (state1 cr)
  unfolding state1
  legal1 cr d = legal_hsi pf oi by ax ay pw vn false false tb want sys c f t hn cr 603992080 0 0 false false 0 false 0 refl (first_row pf oi by ax ay pw vn false false tb want sys c f t hn) (λ h. absurd (not_on (eqb (cr / 2 ^ 24 % 2) 1) h d)) (λ h. absurd (not_on (eqb (cr / 2 ^ 24 % 2) 1) h d))

  -- after it
  flags2 : (cr : ℕ) → eqb (cr / 2 ^ 16 % 2) 1 ≡ true → eqb (cr / 2 ^ 24 % 2) 1 ≡ false → (a : Answer) (b : Bool) (p : ℕ) → flags a (state2 cr b p) ≡ state2 cr (a.hse || b) p
  unfolding state2
  flags2 cr e d a b p =
      let h = b || (a.hse && eqb (cr / 2 ^ 16 % 2) 1) in
      flags_to pf oi by ax ay pw vn false false os a cr 603992080 0 0 b false 0 0 false p (a.hse || b) false 0 0
      (ap (λ z. b || (a.hse && z)) e ∙ comes_to b a.hse)
      (ap (λ z. false || (a.pll && (z && cond (eqb (603992080 / 2 ^ 22 % 2) 1) h true))) d ∙ none_comes false a.pll)
      (same_if a.latency 0) (same_if a.switch 0)

  legal2 : (cr : ℕ) → eqb (cr / 2 ^ 24 % 2) 1 ≡ false → (b : Bool) (p : ℕ) → IsLegal tb want (state2 cr b p)
  unfolding state2
  legal2 cr d b p = legal_hsi pf oi by ax ay pw vn false false tb want sys c f t hn cr 603992080 0 0 b false 0 false p refl (first_row pf oi by ax ay pw vn false false tb want sys c f t hn) (λ h. absurd (not_on (eqb (cr / 2 ^ 24 % 2) 1) h d)) (λ h. absurd (not_on (eqb (cr / 2 ^ 24 % 2) 1) h d))

  op2 : Op
  op2 = op.Await reg.Cr 131072 131072 100000 timeout.Hse

  crystal_sound : (ops : List Op) → S ops (state2 65665 true 0) → S (op2 ∷ ops) (state2 65665 false 0)
  unfolding S state2 op2
  crystal_sound ops rest = sound_await (IsLegal tb want) (FieldsAre want sys c) (state2 65665) (λ a. a.hse) op2 ops 100000 timeout.Hse (record {
    flags_are = flags2 65665 refl refl;
    comes = λ a h q l x y z. h;
    polls_are = λ b p. refl;
    goes_on = λ p. refl;
    waits = λ p l. rw (below (p + 1) 100000 l) refl;
    times_out = λ p l. rw (not_below (p + 1) 100000 l) refl;
    is_legal = legal2 65665 refl;
    rest = rest;
  }) false 0 (omega arith)

  bypass_sound : (ops : List Op) → S ops (state2 327809 true 0) → S (op2 ∷ ops) (state2 327809 false 0)
  unfolding S state2 op2
  bypass_sound ops rest = sound_await (IsLegal tb want) (FieldsAre want sys c) (state2 327809) (λ a. a.hse) op2 ops 100000 timeout.Hse (record {
    flags_are = flags2 327809 refl refl;
    comes = λ a h q l x y z. h;
    polls_are = λ b p. refl;
    goes_on = λ p. refl;
    waits = λ p l. rw (below (p + 1) 100000 l) refl;
    times_out = λ p l. rw (not_below (p + 1) 100000 l) refl;
    is_legal = legal2 327809 refl;
    rest = rest;
  }) false 0 (omega arith)

  -- HSEON, from a word of RCC_CR to another
  op1 : Op
  op1 = op.Modify reg.Cr 0 65536

  crystal_on : oi ≡ true → by ≡ false → act (state1 129) op1 ≡ (stepped.Went, state2 65665 false 0)
  unfolding state1 state2 op1
  crystal_on e d = rw (e, d) refl

  bypass_on : oi ≡ true → by ≡ true → act (state1 262273) op1 ≡ (stepped.Went, state2 327809 false 0)
  unfolding state1 state2 op1
  bypass_on e d = rw (e, d) refl

  op0 : Op
  op0 = op.Modify reg.Cr 0 262144

  bypass_set : act (state1 129) op0 ≡ (stepped.Went, state1 262273)
  unfolding state1 op0
  bypass_set = refl

  -- one op before HSEON
  before_on : (cr : ℕ) (one : Op) (ops : List Op) (s : State) → eqb (cr / 2 ^ 16 % 2) 1 ≡ false → eqb (cr / 2 ^ 24 % 2) 1 ≡ false → act (state1 cr) one ≡ (stepped.Went, s) → S ops s → S (one ∷ ops) (state1 cr)
  unfolding S
  before_on cr one ops s e d went rest = sound_op (IsLegal tb want) (FieldsAre want sys c) one ops (state1 cr) (λ a. s) (legal1 cr d)
      (λ a. subst (IsLegal tb want) (sym (flags1 cr e d a)) (legal1 cr d))
      (λ a. ap (λ u. after one ops (act u one)) (flags1 cr e d a) ∙ ap (after one ops) went)
      (λ a. rest)

  hse_sound : (o : Oscillator) → Suits o oi by → (ops : List Op) → S ops (state3 o 603992080) → S (hse_ops o ops) (state1 129)
  unfolding op0 op1 op2 state1 state2 state3 cr_of
  hse_sound oscillator.Off s ops rest = rest
  hse_sound oscillator.Crystal s ops rest = before_on 129 op1 (op2 ∷ ops) (state2 65665 false 0) refl refl (crystal_on s.0 s.1) (crystal_sound ops rest)
  hse_sound oscillator.Bypass s ops rest =
      before_on 129 op0 (op1 ∷ op2 ∷ ops) (state1 262273) refl refl bypass_set
      (before_on 262273 op1 (op2 ∷ ops) (state2 327809 false 0) refl refl (bypass_on s.0 s.1) (bypass_sound ops rest))

  pub after_vos : Suits c.oscillator oi by → Sound (IsLegal tb want) (FieldsAre want sys c) (hse_ops c.oscillator (pll_ops c (over_ops c.over (late_ops pf c (gpio_section pins))))) (at pf oi by ax ay pw vn false false 129 603992080 0 0 false false 0 0 false 0)
  unfolding S ops3 then_late late state1
  after_vos s = hse_sound c.oscillator s ops3 pll_sound

-- ---- the scale

-- the word of PWR_CR after reset names scale 1
first_bits : (b : Bool) → (eqb (cond b 16384 49152 / 2 ^ 16 % 2) 1 ≡ false) × (eqb (cond b 16384 49152 / 2 ^ 17 % 2) 1 ≡ false)
first_bits true = (refl, refl)
first_bits false = (refl, refl)

first_now : (b : Bool) → step_from false (cond b (2 - cond b 16384 49152 / 2 ^ 14 % 2 ^ 1) (4 - cond b 16384 49152 / 2 ^ 14 % 2 ^ 2)) ≡ Some 1
first_now true = refl
first_now false = refl

module _ (pf oi by : Bool) (vn : ℕ) (tb : TableParts) (want : Target) (sys : Fraction) (c : Codes) (f : IsSmall c) (t : TakesReset tb want c) (pins : List (Option Setup)) (link : (p : ℕ) → ◌≡◌ {A = Option Mode} (get_or want.pins p None) (wanted (get_or pins p None))) (g : CodesFit tb want sys c) (whole_pins : AreWhole pins) (suits : Suits c.oscillator oi by) (clear_is : c.vos_clear ≡ vos_mask vn) (set_is : c.vos_set ≡ vos_word vn c.scale) (known : Member c.step (known_steps vn)) where
  state0 : ℕ → ℕ → ℕ → State
  state0 ax ay pw = at pf oi by ax ay pw vn false false 129 603992080 0 0 false false 0 0 false 0

  flags0 : (ax ay pw : ℕ) → OverStays pw false false → (a : Answer) → flags a (state0 ax ay pw) ≡ state0 ax ay pw
  unfolding state0
  flags0 ax ay pw os a = flags_to pf oi by ax ay pw vn false false os a 129 603992080 0 0 false false 0 0 false 0 false false 0 0 (none_comes false a.hse) (none_comes false a.pll) (same_if a.latency 0) (same_if a.switch 0)

  legal0 : (ax ay pw : ℕ) → TakesNow tb want vn pw false → IsLegal tb want (state0 ax ay pw)
  unfolding state0
  legal0 ax ay pw hn = legal_hsi pf oi by ax ay pw vn false false tb want sys c f t hn 129 603992080 0 0 false false 0 false 0 refl (first_row pf oi by ax ay pw vn false false tb want sys c f t hn) (λ h. absurd (cc)) (λ h. absurd (cc))

  rest0 : List Op
  rest0 = hse_ops c.oscillator (pll_ops c (over_ops c.over (late_ops pf c (gpio_section pins))))

  S0 : List Op → State → Type 0
  S0 ops s = Sound (IsLegal tb want) (FieldsAre want sys c) ops s

  go0 : (ax ay pw bx b2 qw : ℕ) (one : Op) (ops : List Op) → OverStays pw false false → TakesNow tb want vn pw false → act (state0 ax ay pw) one ≡ (stepped.Went, state0 bx b2 qw) → S0 ops (state0 bx b2 qw) → S0 (one ∷ ops) (state0 ax ay pw)
  unfolding S0
  go0 ax ay pw bx b2 qw one ops os hn went rest = sound_op (IsLegal tb want) (FieldsAre want sys c) one ops (state0 ax ay pw) (λ a. state0 bx b2 qw) (legal0 ax ay pw hn)
      (λ a. subst (IsLegal tb want) (sym (flags0 ax ay pw os a)) (legal0 ax ay pw hn))
      (λ a. ap (λ u. after one ops (act u one)) (flags0 ax ay pw os a) ∙ ap (after one ops) went)
      (λ a. rest)

  -- ---- after reset
  first_stays : OverStays (vos_mask vn) false false
  first_stays = let bits = first_bits (eqb vn 1) in off_stays (vos_mask vn) bits.0 bits.1

  now1 : step_now vn (vos_mask vn) false ≡ Some 1
  now1 = first_now (eqb vn 1)

  takes1 : TakesNow tb want vn (vos_mask vn) false
  takes1 = takes_now tb want vn (vos_mask vn) false 1 now1 t.first

  went_apb : act (state0 0 0 (vos_mask vn)) (op.Modify reg.Apb1enr 0 268435456) ≡ (stepped.Went, state0 268435456 0 (vos_mask vn))
  unfolding state0
  went_apb = refl

  went_read : act (state0 268435456 0 (vos_mask vn)) (op.Read reg.Apb1enr) ≡ (stepped.Went, state0 268435456 268435456 (vos_mask vn))
  unfolding state0
  went_read = refl

  -- ---- the rest, from a word that names the scale
  from_word : (ax ay pw : ℕ) → OverStays pw false false → step_now vn pw false ≡ Some c.scale → (c.over ≡ true → CanOver vn ax ay pw c) → S0 rest0 (state0 ax ay pw)
  unfolding S0 rest0 state0
  from_word ax ay pw os sc can = after_vos pf oi by ax ay pw vn os tb want sys c f t (takes_now tb want vn pw false c.scale sc t.scale) pins link g whole_pins sc can suits

  -- PWREN is set and read, and then a rest is taken
  enabled_then : (ops : List Op) → S0 ops (state0 268435456 268435456 (vos_mask vn)) → S0 (op.Modify reg.Apb1enr 0 268435456 ∷ op.Read reg.Apb1enr ∷ ops) (state0 0 0 (vos_mask vn))
  enabled_then ops rest =
      go0 0 0 (vos_mask vn) 268435456 0 (vos_mask vn) (op.Modify reg.Apb1enr 0 268435456) (op.Read reg.Apb1enr ∷ ops) first_stays takes1 went_apb
      (go0 268435456 0 (vos_mask vn) 268435456 268435456 (vos_mask vn) (op.Read reg.Apb1enr) ops first_stays takes1 went_read rest)

  -- a write of VOS
  scale_then : (clear set word : ℕ) → OverStays word false false → act (state0 268435456 268435456 (vos_mask vn)) (op.Modify reg.PwrCr clear set) ≡ (stepped.Went, state0 268435456 268435456 word) → step_now vn word false ≡ Some c.scale → (c.over ≡ true → CanOver vn 268435456 268435456 word c) → S0 (op.Modify reg.PwrCr clear set ∷ rest0) (state0 268435456 268435456 (vos_mask vn))
  scale_then clear set word os went sc can =
      go0 268435456 268435456 (vos_mask vn) 268435456 268435456 word (op.Modify reg.PwrCr clear set) rest0 first_stays takes1 went (from_word 268435456 268435456 word os sc can)

  off : (step : ℕ) → has_over step ≡ false → c.step ≡ step → c.over ≡ true → ⊥
  off step e is o = both (g.over_is ∙ ap has_over is ∙ e) o
    where
      both : {b : Bool} → b ≡ false → b ≡ true → ⊥
      both h k = cc

  scale_at : (step : ℕ) → c.step ≡ step → c.scale ≡ scale_of_step step
  scale_at step is = g.scale_is ∙ ap scale_of_step is

  -- ---- each power step
  one : c.step ≡ 1 → S0 rest0 (state0 0 0 (vos_mask vn))
  one is = from_word 0 0 (vos_mask vn) first_stays (now1 ∙ ap Some (sym (scale_at 1 is))) (λ o. absurd (off 1 refl is o))

  -- scale 2, by one bit and by two
  went_2_1 : eqb vn 1 ≡ true → act (state0 268435456 268435456 (vos_mask vn)) (op.Modify reg.PwrCr 16384 0) ≡ (stepped.Went, state0 268435456 268435456 0)
  unfolding state0
  went_2_1 v = rw (v) refl

  went_2_2 : eqb vn 1 ≡ false → act (state0 268435456 268435456 (vos_mask vn)) (op.Modify reg.PwrCr 49152 32768) ≡ (stepped.Went, state0 268435456 268435456 32768)
  unfolding state0
  went_2_2 v = rw (v) refl

  went_3 : eqb vn 1 ≡ false → act (state0 268435456 268435456 (vos_mask vn)) (op.Modify reg.PwrCr 49152 16384) ≡ (stepped.Went, state0 268435456 268435456 16384)
  unfolding state0
  went_3 v = rw (v) refl

  now_2_1 : eqb vn 1 ≡ true → step_now vn 0 false ≡ Some 2
  now_2_1 v = rw (v) refl

  now_2_2 : eqb vn 1 ≡ false → step_now vn 32768 false ≡ Some 2
  now_2_2 v = rw (v) refl

  now_3 : eqb vn 1 ≡ false → step_now vn 16384 false ≡ Some 3
  now_3 v = rw (v) refl

  mask_1 : eqb vn 1 ≡ true → vos_mask vn ≡ 16384
  mask_1 v = rw (v) refl

  mask_2 : eqb vn 1 ≡ false → vos_mask vn ≡ 49152
  mask_2 v = rw (v) refl

  set_2_1 : eqb vn 1 ≡ true → vos_word vn 2 ≡ 0
  set_2_1 v = rw (v) refl

  set_2_2 : eqb vn 1 ≡ false → vos_word vn 2 ≡ 32768
  set_2_2 v = rw (v) refl

  set_3 : eqb vn 1 ≡ false → vos_word vn 3 ≡ 16384
  set_3 v = rw (v) refl

  -- the modify of VOS, by the scale
  same_op : (scale clear set : ℕ) → c.scale ≡ scale → vos_mask vn ≡ clear → vos_word vn scale ≡ set → op.Modify reg.PwrCr clear set ≡ op.Modify reg.PwrCr c.vos_clear c.vos_set
  same_op scale clear set is m s =
      ap (λ (x : ℕ). op.Modify reg.PwrCr x set) (sym m ∙ sym clear_is)
      ∙ ap (λ (x : ℕ). op.Modify reg.PwrCr c.vos_clear x) (sym s ∙ ap (vos_word vn) (sym is) ∙ sym set_is)

  scaled : (scale clear set word : ℕ) → c.scale ≡ scale → vos_mask vn ≡ clear → vos_word vn scale ≡ set → OverStays word false false → act (state0 268435456 268435456 (vos_mask vn)) (op.Modify reg.PwrCr clear set) ≡ (stepped.Went, state0 268435456 268435456 word) → step_now vn word false ≡ Some scale → (c.over ≡ true → CanOver vn 268435456 268435456 word c) → S0 (op.Modify reg.PwrCr c.vos_clear c.vos_set ∷ rest0) (state0 268435456 268435456 (vos_mask vn))
  scaled scale clear set word is m s os went sc can =
      subst (λ (o : Op). S0 (o ∷ rest0) (state0 268435456 268435456 (vos_mask vn))) (same_op scale clear set is m s)
      (scale_then clear set word os went (sc ∙ ap Some (sym is)) can)

  two_1 : eqb vn 1 ≡ true → c.step ≡ 2 → S0 (op.Modify reg.PwrCr c.vos_clear c.vos_set ∷ rest0) (state0 268435456 268435456 (vos_mask vn))
  two_1 v is = scaled 2 16384 0 0 (scale_at 2 is) (mask_1 v) (set_2_1 v) (off_stays 0 refl refl) (went_2_1 v) (now_2_1 v) (λ o. absurd (off 2 refl is o))

  two_2 : eqb vn 1 ≡ false → c.step ≡ 2 → S0 (op.Modify reg.PwrCr c.vos_clear c.vos_set ∷ rest0) (state0 268435456 268435456 (vos_mask vn))
  two_2 v is = scaled 2 49152 32768 32768 (scale_at 2 is) (mask_2 v) (set_2_2 v) (off_stays 32768 refl refl) (went_2_2 v) (now_2_2 v) (λ o. absurd (off 2 refl is o))

  three : eqb vn 1 ≡ false → c.step ≡ 3 → S0 (op.Modify reg.PwrCr c.vos_clear c.vos_set ∷ rest0) (state0 268435456 268435456 (vos_mask vn))
  three v is = scaled 3 49152 16384 16384 (scale_at 3 is) (mask_2 v) (set_3 v) (off_stays 16384 refl refl) (went_3 v) (now_3 v) (λ o. absurd (off 3 refl is o))

  five : eqb vn 1 ≡ false → c.step ≡ 5 → S0 (op.Modify reg.PwrCr c.vos_clear c.vos_set ∷ rest0) (state0 268435456 268435456 (vos_mask vn))
  unfolding word0
  five v is = scaled 2 49152 32768 32768 (scale_at 5 is) (mask_2 v) (set_2_2 v) (off_stays 32768 refl refl) (went_2_2 v) (now_2_2 v)
      (λ o. record { two = v; enabled = refl; noted = refl; which = false; word = refl; scale = scale_at 5 is; step = is })

  four : eqb vn 1 ≡ false → c.step ≡ 4 → S0 rest0 (state0 268435456 268435456 (vos_mask vn))
  unfolding word0
  four v is = from_word 268435456 268435456 (vos_mask vn) first_stays (now1 ∙ ap Some (sym (scale_at 4 is)))
      (λ o. record { two = v; enabled = refl; noted = refl; which = true; word = mask_2 v; scale = scale_at 4 is; step = is })

  -- ---- and each version
  with_step : (step scale : ℕ) (s1 s2 : Bool) → c.step ≡ step → c.scale ≡ scale → eqb step 1 ≡ s1 → eqb scale 1 ≡ s2 → S0 (cond s1 rest0 (op.Modify reg.Apb1enr 0 268435456 ∷ op.Read reg.Apb1enr ∷ cond s2 rest0 (op.Modify reg.PwrCr c.vos_clear c.vos_set ∷ rest0))) (state0 0 0 (vos_mask vn)) → S0 (vos_ops c rest0) (state0 0 0 (vos_mask vn))
  with_step step scale s1 s2 is are e d h =
      let e1 : eqb c.step 1 ≡ s1 = ap (λ (x : ℕ). eqb x 1) is ∙ e in
      let e2 : eqb c.scale 1 ≡ s2 = ap (λ (x : ℕ). eqb x 1) are ∙ d in
      rw (e1, e2) h

  at_1 : c.step ≡ 1 → S0 (vos_ops c rest0) (state0 0 0 (vos_mask vn))
  at_1 is = with_step 1 1 true true is (scale_at 1 is) refl refl (one is)

  at_2 : (b : Bool) → eqb vn 1 ≡ b → c.step ≡ 2 → S0 (vos_ops c rest0) (state0 0 0 (vos_mask vn))
  at_2 true v is = with_step 2 2 false false is (scale_at 2 is) refl refl (enabled_then (op.Modify reg.PwrCr c.vos_clear c.vos_set ∷ rest0) (two_1 v is))
  at_2 false v is = with_step 2 2 false false is (scale_at 2 is) refl refl (enabled_then (op.Modify reg.PwrCr c.vos_clear c.vos_set ∷ rest0) (two_2 v is))

  at_more : eqb vn 1 ≡ false → (c.step ≡ 3) ⊎ ((c.step ≡ 4) ⊎ (c.step ≡ 5)) → S0 (vos_ops c rest0) (state0 0 0 (vos_mask vn))
  at_more v h = elim h [
    | inl is ↦ with_step 3 3 false false is (scale_at 3 is) refl refl (enabled_then (op.Modify reg.PwrCr c.vos_clear c.vos_set ∷ rest0) (three v is))
    | inr m ↦ elim m [
      | inl is ↦ with_step 4 1 false true is (scale_at 4 is) refl refl (enabled_then rest0 (four v is))
      | inr is ↦ with_step 5 2 false false is (scale_at 5 is) refl refl (enabled_then (op.Modify reg.PwrCr c.vos_clear c.vos_set ∷ rest0) (five v is))
    ]
  ]

  by_version : (b : Bool) → eqb vn 1 ≡ b → Member c.step (cond b (1 ∷ 2 ∷ []) (1 ∷ 2 ∷ 3 ∷ 4 ∷ 5 ∷ [])) → S0 (vos_ops c rest0) (state0 0 0 (vos_mask vn))
  by_version true v m = elim m [
    | inl is ↦ at_1 is
    | inr r ↦ elim r [ inl is ↦ at_2 true v is | inr z ↦ absurd z ]
  ]
  by_version false v m = elim m [
    | inl is ↦ at_1 is
    | inr r ↦ elim r [
      | inl is ↦ at_2 false v is
      | inr q ↦ elim q [
        | inl is ↦ at_more v (inl is)
        | inr w ↦ elim w [
          | inl is ↦ at_more v (inr (inl is))
          | inr x ↦ elim x [ inl is ↦ at_more v (inr (inr is)) | inr z ↦ absurd z ]
        ]
      ]
    ]
  ]

  pub writes_sound : Sound (IsLegal tb want) (FieldsAre want sys c) (vos_ops c (hse_ops c.oscillator (pll_ops c (over_ops c.over (late_ops pf c (gpio_section pins)))))) (at pf oi by 0 0 (vos_mask vn) vn false false 129 603992080 0 0 false false 0 0 false 0)
  unfolding S0 state0 rest0
  writes_sound = by_version (eqb vn 1) refl known
