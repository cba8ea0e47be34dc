-- The latency, the dividers, the switch and the pins, for any state of the oscillators that stays.
use Rattle.std.proofs.Common.{◌≡◌, ℕ, ◌+◌, ◌*◌, ◌-◌, ◌/◌, ◌%◌, ◌^◌, ◌<◌, ◌≤◌, List, ◌∷◌, get_or, Bool, true, false, ◌&&◌, ◌||◌, cond, eqb, ltb, bit_and, bit_or, Option, Some, None, inl, inr, refl, sym, subst, ap, ◌∙◌, arith}
use Rattle.std.specs.Prelude.{unwrap_or}
use Rattle.std.proofs.lemmas.Bool.{eq-eqb, eqb-true, cases_lt}
use Rattle.std.proofs.lemmas.Bool.Decides.{nat_tests}
use Rattle.std.proofs.lemmas.Nat.{and_block, and_mask, and_comm, or_shifted}
use Rattle.reg_map.proofs.BitLemmas.{all_below, at_below}
use Rattle.std.proofs.Math.Nat.{mod-eq_of_lt}
use Rattle.reg_map.specs.declared.register.Reg.TheVariants as reg
use Rattle.reg_machine.specs.declared.op.Timeout.TheVariants as timeout
use Rattle.reg_machine.specs.declared.op.Op.{Op}
use Rattle.reg_machine.specs.declared.op.Op.TheVariants as op
use Rattle.reg_machine.specs.declared.op.Answer.{Answer}
use Rattle.init_gen.specs.declared.setting.Setup.{Setup}
use Rattle.reg_machine.specs.declared.state.State.{State}
use Rattle.reg_machine.specs.declared.op.Stepped.TheVariants as stepped
use Rattle.reg_map.specs.Fields.{field_of}
use Rattle.reg_machine.specs.Step.{flags, act, store}
use Rattle.reg_machine.specs.Run.{after, Sound}
use Rattle.reg_machine.specs.Pins.{ArePinsLegal}
use Rattle.reg_machine.specs.Reset.{reset_gpio}
use Rattle.init_gen.specs.PinWrites.{wanted, AreWhole, gpio_section}
use Rattle.res_base.specs.Fraction.{Fraction, whole}
use Rattle.res_model.specs.Limits.{AreWithin}
use Rattle.res_model.specs.Power.{speeds_at, scale_limit}
use Rattle.res_model.specs.ClockValues.{hsi}
use Rattle.res_model.specs.declared.table.Mode.{Mode}
use Rattle.res_model.specs.declared.table.TableParts.{TableParts}
use Rattle.reg_machine.specs.declared.state.Target.{Target}
use Rattle.reg_machine.specs.Tree.{choice_of, hpre_of, ppre1_of, ppre2_of, hpre_value, ppre_value}
use Rattle.reg_machine.specs.Legal.{NodesFit, IsChoiceLegal, IsLegal}
use Rattle.init_gen.specs.declared.setting.Codes.{Codes}
use Rattle.init_gen.specs.Writes.{code_word, acr_word, switch_ops, late_ops}
use Rattle.init_gen.specs.Codes.{IsSmall}
use Rattle.init_gen.proofs.Fitting.{Rises, CodesFit, TakesReset, TakesNow, OverStays, PllIs, FieldsAre, step_now, rows_of, vco_in_at, vco_at, sys_at}
use Rattle.reg_machine.proofs.SoundLemmas.{sound_op, sound_await}
use Rattle.init_gen.proofs.GpioLemmas.{reset_pin, reset_legal}
use Rattle.init_gen.proofs.SectionLemmas.{with_ports, section_sound}
use Rattle.init_gen.proofs.ClockLemmas.{hcode_is, code1_is, code2_is, sw_is, hpre_pos, ppre_pos, hsi_fits, acr_low, acr_taken, acr_prefetch, acr_reads}

pub same_if : (b : Bool) (x : ℕ) → cond b x x ≡ x
same_if true x = refl
same_if false x = refl

pub below : (m n : ℕ) → m < n → ltb m n ≡ true
below m n l = grind (arith, nat_tests)

pub not_below : (m n : ℕ) → n ≤ m → ltb m n ≡ false
not_below m n l = grind (arith, nat_tests)

-- a flag that comes where it may
pub comes_to : (b x : Bool) → (b || (x && true)) ≡ (x || b)
comes_to true true = refl
comes_to true false = refl
comes_to false true = refl
comes_to false false = refl

-- one that may not
pub none_comes : (b x : Bool) → (b || (x && false)) ≡ b
none_comes true x = refl
none_comes false true = refl
none_comes false false = refl

-- over-drive that is not enabled stays off, and one that is on stays on
pub off_stays : (word : ℕ) → eqb (word / 2 ^ 16 % 2) 1 ≡ false → eqb (word / 2 ^ 17 % 2) 1 ≡ false → OverStays word false false
off_stays word e d = record {
  ready_stays = λ a on. ap (λ (z : Bool). false || (a.over && (z && on))) e ∙ none_comes false a.over;
  switch_stays = λ a on. ap (λ (z : Bool). false || (a.over_switch && (z && on))) d ∙ none_comes false a.over_switch;
}

pub on_stays : (word : ℕ) → OverStays word true true
on_stays word = record { ready_stays = λ a on. refl; switch_stays = λ a on. refl }

pub still_true : (b : Bool) → (b || true) ≡ true
still_true true = refl
still_true false = refl

-- a number that comes
pub taken : (x b : Bool) (n : ℕ) → cond x n (cond b n 0) ≡ cond (x || b) n 0
taken true b n = refl
taken false b n = refl

module _ (pf oi by : Bool) (ax ay pw vn : ℕ) (ov sw : Bool) where
  -- the states: RCC_CR, PLLCFGR, CFGR and ACR, HSE's and the PLL's flag, the latency and the source in effect, the mark, polls
  abbrev pub at : ℕ → ℕ → ℕ → ℕ → Bool → Bool → ℕ → ℕ → Bool → ℕ → State
  at cr v c r hse pll lat src wr p =
      record {
        cr = cr;
        pllcfgr = v;
        cfgr = c;
        acr = r;
        ahb1enr = 1048576;
        ahb_read = 0;
        apb1enr = ax;
        apb_read = ay;
        pwr_cr = pw;
        gpio = reset_gpio;
        hse_ready = hse;
        pll_ready = pll;
        latency = lat;
        source = src;
        over_ready = ov;
        over_switched = sw;
        acr_written = wr;
        polls = p;
        osc_in = oi;
        bypass = by;
        prefetch = pf;
        version = vn;
      }

-- what flags do to such a state
module _ (pf oi by : Bool) (ax ay pw vn : ℕ) where
  pub flags_all : (a : Answer) (ov sw : Bool) (cr v c r : ℕ) (hse pll : Bool) (lat src : ℕ) (wr : Bool) (p : ℕ) (hse' pll' : Bool) (lat' src' : ℕ) (ov' sw' : Bool)
      → (hse || (a.hse && eqb (cr / 2 ^ 16 % 2) 1)) ≡ hse'
      → (pll || (a.pll && (eqb (cr / 2 ^ 24 % 2) 1 && cond (eqb (v / 2 ^ 22 % 2) 1) (hse || (a.hse && eqb (cr / 2 ^ 16 % 2) 1)) true))) ≡ pll'
      → cond a.latency (r % 8) lat ≡ lat' → cond a.switch (c % 4) src ≡ src'
      → (ov || (a.over && (eqb (pw / 2 ^ 16 % 2) 1 && eqb (cr / 2 ^ 24 % 2) 1))) ≡ ov'
      → (sw || (a.over_switch && (eqb (pw / 2 ^ 17 % 2) 1 && (ov || (a.over && (eqb (pw / 2 ^ 16 % 2) 1 && eqb (cr / 2 ^ 24 % 2) 1)))))) ≡ sw'
      → flags a (at pf oi by ax ay pw vn ov sw cr v c r hse pll lat src wr p) ≡ at pf oi by ax ay pw vn ov' sw' cr v c r hse' pll' lat' src' wr p
  flags_all a ov sw cr v c r hse pll lat src wr p hse' pll' lat' src' ov' sw' eh ep el es eo ew =
      let h0 = hse || (a.hse && eqb (cr / 2 ^ 16 % 2) 1) in
      let q0 = pll || (a.pll && (eqb (cr / 2 ^ 24 % 2) 1 && cond (eqb (v / 2 ^ 22 % 2) 1) h0 true)) in
      let l0 = cond a.latency (r % 8) lat in
      let s0 = cond a.switch (c % 4) src in
      let o0 = ov || (a.over && (eqb (pw / 2 ^ 16 % 2) 1 && eqb (cr / 2 ^ 24 % 2) 1)) in
      let w0 = sw || (a.over_switch && (eqb (pw / 2 ^ 17 % 2) 1 && o0)) in
      ap (λ (b : Bool). at pf oi by ax ay pw vn o0 w0 cr v c r b q0 l0 s0 wr p) eh
      ∙ ap (λ (b : Bool). at pf oi by ax ay pw vn o0 w0 cr v c r hse' b l0 s0 wr p) ep
      ∙ ap (λ n. at pf oi by ax ay pw vn o0 w0 cr v c r hse' pll' n s0 wr p) el
      ∙ ap (λ n. at pf oi by ax ay pw vn o0 w0 cr v c r hse' pll' lat' n wr p) es
      ∙ ap (λ (b : Bool). at pf oi by ax ay pw vn b w0 cr v c r hse' pll' lat' src' wr p) eo
      ∙ ap (λ (b : Bool). at pf oi by ax ay pw vn ov' b cr v c r hse' pll' lat' src' wr p) ew

  -- where those of over-drive stay
  pub flags_to : (ov sw : Bool) → OverStays pw ov sw → (a : Answer) (cr v c r : ℕ) (hse pll : Bool) (lat src : ℕ) (wr : Bool) (p : ℕ) (hse' pll' : Bool) (lat' src' : ℕ)
      → (hse || (a.hse && eqb (cr / 2 ^ 16 % 2) 1)) ≡ hse'
      → (pll || (a.pll && (eqb (cr / 2 ^ 24 % 2) 1 && cond (eqb (v / 2 ^ 22 % 2) 1) (hse || (a.hse && eqb (cr / 2 ^ 16 % 2) 1)) true))) ≡ pll'
      → cond a.latency (r % 8) lat ≡ lat' → cond a.switch (c % 4) src ≡ src'
      → flags a (at pf oi by ax ay pw vn ov sw cr v c r hse pll lat src wr p) ≡ at pf oi by ax ay pw vn ov sw cr v c r hse' pll' lat' src' wr p
  flags_to ov sw os a cr v c r hse pll lat src wr p hse' pll' lat' src' eh ep el es =
      flags_all a ov sw cr v c r hse pll lat src wr p hse' pll' lat' src' ov sw eh ep el es (os.ready_stays a (eqb (cr / 2 ^ 24 % 2) 1))
      (os.switch_stays a (ov || (a.over && (eqb (pw / 2 ^ 16 % 2) 1 && eqb (cr / 2 ^ 24 % 2) 1))))

-- of RCC_CFGR's word: the bits that a write may not change, and the bits of SWS
cfgr_others : (h a b s : ℕ) → h < 16 → a < 8 → b < 8 → s < 3 → bit_and (h * 2 ^ 4 + a * 2 ^ 10 + b * 2 ^ 13 + s) 4294902528 ≡ 0
cfgr_others h a b s lh la lb ls =
    eqb-true _ 0 (at_below 3 s (λ w. eqb (bit_and (h * 2 ^ 4 + a * 2 ^ 10 + b * 2 ^ 13 + w) 4294902528) 0)
    (at_below 8 b (λ z. all_below 3 (λ w. eqb (bit_and (h * 2 ^ 4 + a * 2 ^ 10 + z * 2 ^ 13 + w) 4294902528) 0))
    (at_below 8 a (λ y. all_below 8 (λ z. all_below 3 (λ w. eqb (bit_and (h * 2 ^ 4 + y * 2 ^ 10 + z * 2 ^ 13 + w) 4294902528) 0)))
    (at_below 16 h (λ x. all_below 8 (λ y. all_below 8 (λ z. all_below 3 (λ w. eqb (bit_and (x * 2 ^ 4 + y * 2 ^ 10 + z * 2 ^ 13 + w) 4294902528) 0)))) refl lh) la) lb) ls)

sws : (k x : ℕ) → x < 16 → bit_and (k * 16 + x) 12 ≡ bit_and x 12
sws k x l =
    let e : bit_and (k * 16 + x) 12 ≡ bit_and k 0 * 2 ^ 4 + bit_and x 12 = and_block 4 k 0 x 12 l (omega arith) in
    let z : bit_and k 0 ≡ 0 = and_comm k 0 in
    omega (arith, e, z)

-- SW of a word in which it is 0
switch_to : (k s : ℕ) → k < 2 ^ 28 → s < 4 → bit_or (bit_and (k * 16) 4294967292) s ≡ k * 16 + s
switch_to k s l m =
    let parts : k * 16 ≡ k * 4 * 2 ^ 2 + 0 = omega arith in
    let low : bit_and (k * 4 * 2 ^ 2 + 0) 4294967292 ≡ bit_and (k * 4) 1073741823 * 2 ^ 2 + 0 = and_block 2 (k * 4) 1073741823 0 0 (omega arith) (omega arith) in
    let kept : bit_and (k * 4) 1073741823 ≡ k * 4 = and_mask (k * 4) 30 ∙ mod-eq_of_lt (omega arith) in
    let cleared : bit_and (k * 16) 4294967292 ≡ k * 4 * 2 ^ 2 = ap (λ x. bit_and x 4294967292) parts ∙ low ∙ omega (arith, kept) in
    let set : bit_or (k * 4 * 2 ^ 2) s ≡ k * 4 * 2 ^ 2 + s = or_shifted (k * 4) 2 s (omega arith) in
    ap (λ x. bit_or x s) cleared ∙ set ∙ omega arith

-- the await of a switch to a source
sws_wanted : (s : ℕ) → s < 3 → eqb (bit_and (s + 4 * s) 12) (4 * s) ≡ true
sws_wanted s l = at_below 3 s (λ x. eqb (bit_and (x + 4 * x) 12) (4 * x)) refl l

not_wanted : (s : ℕ) → 1 ≤ s → s < 3 → eqb (bit_and (s + 4 * 0) 12) (4 * s) ≡ false
not_wanted s m l = ap (λ x. eqb x (4 * s)) (eqb-true _ 0 (at_below 3 s (λ x. eqb (bit_and (x + 4 * 0) 12) 0) refl l)) ∙ not_zero s m where
  not_zero : (w : ℕ) → 1 ≤ w → eqb 0 (4 * w) ≡ false
  not_zero w h = grind (arith, nat_tests)

-- the oscillators stand as they are for good: RCC_CR, RCC_PLLCFGR, and HSE's and the PLL's flag
pub record Stays (t : TableParts) (want : Target) (sys : Fraction) (c : Codes) (cr v : ℕ) (hse pll : Bool) : Type 0 where
  pub hse_stays : (a : Answer) → (hse || (a.hse && eqb (cr / 2 ^ 16 % 2) 1)) ≡ hse
  pub pll_stays : (a : Answer) → (pll || (a.pll && (eqb (cr / 2 ^ 24 % 2) 1 && cond (eqb (v / 2 ^ 22 % 2) 1) (hse || (a.hse && eqb (cr / 2 ^ 16 % 2) 1)) true))) ≡ pll
  pub vco_in : eqb (cr / 2 ^ 24 % 2) 1 ≡ true → AreWithin t.limits.vco_in (vco_in_at want.facts v)
  pub vco : eqb (cr / 2 ^ 24 % 2) 1 ≡ true → AreWithin t.limits.vco (vco_at want.facts v)
  pub ready : cond (eqb c.src 0) true (cond (eqb c.src 1) hse (eqb c.src 2 && pll)) ≡ true
  pub sysclk : sys_at want.facts v c.src ≡ sys
  pub pll_on : eqb (cr / 2 ^ 24 % 2) 1 ≡ c.pll
  pub pll_is : c.pll ≡ true → PllIs c v

pub first_pins : (wants : List (Option Mode)) → ArePinsLegal wants reset_gpio
first_pins wants = record { pin = λ q l. reset_legal (get_or wants q None) q _ _ (reset_pin q l) }

module _ (pf oi by : Bool) (ax ay pw vn : ℕ) (ov sw : Bool) (tb : TableParts) (want : Target) (sys : Fraction) (c : Codes) (f : IsSmall c) (t : TakesReset tb want c) (hn : TakesNow tb want vn pw sw) where
  abbrev now : ℕ
  now = unwrap_or (step_now vn pw sw) 0

  -- HSI in effect and asked for
  hsi_nodes : (lat cf : ℕ) → Rises (rows_of tb want) lat → NodesFit (speeds_at tb now) (scale_limit tb now) (rows_of tb want) lat (whole hsi) (hpre_of cf) (ppre1_of cf) (ppre2_of cf)
  hsi_nodes lat cf rise = hsi_fits (speeds_at tb now) (scale_limit tb now) (rows_of tb want) lat (hpre_of cf) (ppre1_of cf) (ppre2_of cf) hn.hsi rise (hpre_pos (field_of 4 4 cf)) (ppre_pos (field_of 10 3 cf)) (ppre_pos (field_of 13 3 cf))

  pub first_row : Rises (rows_of tb want) 0
  first_row = record { there = hn.hsi.row_is_there; above = omega arith }

  pub legal_hsi : (cr x cf ac : ℕ) (hse pll : Bool) (lat : ℕ) (wr : Bool) (p : ℕ) → cf % 4 ≡ 0 → Rises (rows_of tb want) lat
      → (eqb (cr / 2 ^ 24 % 2) 1 ≡ true → AreWithin tb.limits.vco_in (vco_in_at want.facts x)) → (eqb (cr / 2 ^ 24 % 2) 1 ≡ true → AreWithin tb.limits.vco (vco_at want.facts x))
      → IsLegal tb want (at pf oi by ax ay pw vn ov sw cr x cf ac hse pll lat 0 wr p)
  legal_hsi cr x cf ac hse pll lat wr p e rise vco_in vco = record {
    power = hn.some;
    in_effect = hsi_nodes lat cf rise;
    asked = subst (λ s. IsChoiceLegal tb want.facts lat (choice_of (at pf oi by ax ay pw vn ov sw cr x cf ac hse pll lat 0 wr p) s)) (sym e) (hsi_nodes lat cf rise);
    vco_in = vco_in;
    vco = vco;
    pins = first_pins want.pins;
  }

  module _ (pins : List (Option Setup)) (link : (p : ℕ) → ◌≡◌ {A = Option Mode} (get_or want.pins p None) (wanted (get_or pins p None))) (g : CodesFit tb want sys c) (whole_pins : AreWhole pins) (cr v : ℕ) (hse pll : Bool) (k : Stays tb want sys c cr v hse pll) (os : OverStays pw ov sw) (sc : step_now vn pw sw ≡ Some c.step) where
    abbrev d : ℕ
    d = code_word c

    abbrev r : ℕ
    r = acr_word pf c.wait

    sw_small : c.src < 4
    sw_small = omega (arith, f.src)

    h_is : hpre_of (d + c.src) ≡ hpre_value c.hcode
    h_is = ap hpre_value (hcode_is c f c.src sw_small)

    a_is : ppre1_of (d + c.src) ≡ ppre_value c.code1
    a_is = ap ppre_value (code1_is c f c.src sw_small)

    b_is : ppre2_of (d + c.src) ≡ ppre_value c.code2
    b_is = ap ppre_value (code2_is c f c.src sw_small)

    fits_at : (step : ℕ) (x : Fraction) (h a b : ℕ) → step ≡ c.step → x ≡ sys → h ≡ hpre_value c.hcode → a ≡ ppre_value c.code1 → b ≡ ppre_value c.code2 → NodesFit (speeds_at tb step) (scale_limit tb step) (rows_of tb want) c.wait x h a b
    fits_at step x h a b es ex eh ea eb =
        subst (λ n. NodesFit (speeds_at tb n) (scale_limit tb n) (rows_of tb want) c.wait x h a b) (sym es)
        (subst (λ y. NodesFit (speeds_at tb c.step) (scale_limit tb c.step) (rows_of tb want) c.wait y h a b) (sym ex)
        (subst (λ y. NodesFit (speeds_at tb c.step) (scale_limit tb c.step) (rows_of tb want) c.wait sys y a b) (sym eh)
        (subst (λ y. NodesFit (speeds_at tb c.step) (scale_limit tb c.step) (rows_of tb want) c.wait sys (hpre_value c.hcode) y b) (sym ea)
        (subst (λ y. NodesFit (speeds_at tb c.step) (scale_limit tb c.step) (rows_of tb want) c.wait sys (hpre_value c.hcode) (ppre_value c.code1) y) (sym eb) g.nodes))))

    now_is : now ≡ c.step
    now_is = ap (λ (o : Option ℕ). unwrap_or o 0) sc

    src_nodes : NodesFit (speeds_at tb now) (scale_limit tb now) (rows_of tb want) c.wait (sys_at want.facts v c.src) (hpre_of (d + c.src)) (ppre1_of (d + c.src)) (ppre2_of (d + c.src))
    src_nodes = fits_at now (sys_at want.facts v c.src) (hpre_of (d + c.src)) (ppre1_of (d + c.src)) (ppre2_of (d + c.src)) now_is k.sysclk h_is a_is b_is

    low_r : r % 8 ≡ c.wait
    low_r = acr_low pf c.wait f.wait

    -- ---- the switch, and the pins
    state10 : Bool → ℕ → State
    state10 b p = at pf oi by ax ay pw vn ov sw cr v (d + c.src) r hse pll c.wait (cond b c.src 0) true p

    flags10 : (a : Answer) (b : Bool) (p : ℕ) → flags a (state10 b p) ≡ state10 (a.switch || b) p
    unfolding state10
    flags10 a b p =
        flags_to pf oi by ax ay pw vn ov sw os a cr v (d + c.src) r hse pll c.wait (cond b c.src 0) true p hse pll c.wait (cond (a.switch || b) c.src 0) (k.hse_stays a) (k.pll_stays a)
        (ap (λ x. cond a.latency x c.wait) low_r ∙ same_if a.latency c.wait)
        (ap (λ x. cond a.switch x (cond b c.src 0)) (sw_is c f c.src sw_small) ∙ taken a.switch b c.src)

    legal10 : (n q : ℕ) (w : List ℕ) (b : Bool) (p : ℕ) → ArePinsLegal want.pins w → IsLegal tb want (with_ports (state10 b p) n q w)
    unfolding state10
    legal10 n q w true p al = record {
      power = hn.some;
      in_effect = src_nodes;
      asked = subst (λ s. IsChoiceLegal tb want.facts c.wait (choice_of (with_ports (at pf oi by ax ay pw vn ov sw cr v (d + c.src) r hse pll c.wait c.src true p) n q w) s)) (sym (sw_is c f c.src sw_small)) src_nodes;
      vco_in = k.vco_in;
      vco = k.vco;
      pins = al;
    }
    legal10 n q w false p al = record {
      power = hn.some;
      in_effect = hsi_nodes c.wait (d + c.src) t.rises;
      asked = subst (λ s. IsChoiceLegal tb want.facts c.wait (choice_of (with_ports (at pf oi by ax ay pw vn ov sw cr v (d + c.src) r hse pll c.wait 0 true p) n q w) s)) (sym (sw_is c f c.src sw_small)) src_nodes;
      vco_in = k.vco_in;
      vco = k.vco;
      pins = al;
    }

    S : List Op → State → Type 0
    S ops s = Sound (IsLegal tb want) (FieldsAre want sys c) ops s

    ops11 : List Op
    ops11 = gpio_section pins

    sound11 : S ops11 (state10 true 0)
    unfolding state10 S ops11
    sound11 =
        section_sound (IsLegal tb want) (FieldsAre want sys c) (state10 true 0) pins want.pins link whole_pins (λ a. flags10 a true 0 ∙ ap (λ b. state10 b 0) (still_true a.switch)) refl
        (λ n q w al. legal10 n q w true 0 al)
        (λ n q w m. record { source = refl; sysclk = k.sysclk; pll_on = k.pll_on; pll = k.pll_is; hpre = h_is; ppre1 = a_is; ppre2 = b_is; power = sc; modes = m })

    -- ---- await the switch
    op10 : Op
    op10 = op.Await reg.Cfgr 12 (4 * c.src) 100000 timeout.Switch

    -- the word of the dividers, by 16
    tens : ℕ
    tens = c.hcode + c.code1 * 64 + c.code2 * 512

    by_tens : d ≡ tens * 16
    unfolding tens
    by_tens = omega arith

    tens_small : tens < 2 ^ 28
    unfolding tens
    tens_small = omega (arith, f.hcode, f.code1, f.code2)

    lawful10 : eqb (4 * c.src) (4 * ((d + c.src) % 4)) ≡ true
    lawful10 = eq-eqb _ _ (ap (λ x. 4 * x) (sym (sw_is c f c.src sw_small)))

    reads10 : (x : ℕ) → x < 3 → bit_and (d + c.src + 4 * x) 12 ≡ bit_and (c.src + 4 * x) 12
    reads10 x l =
        let parts : d + c.src + 4 * x ≡ tens * 16 + (c.src + 4 * x) = omega (arith, by_tens) in
        ap (λ n. bit_and n 12) parts ∙ sws tens (c.src + 4 * x) (omega (arith, f.src))

    read_on10 : eqb (bit_and (d + c.src + 4 * c.src) 12) (4 * c.src) ≡ true
    read_on10 = ap (λ x. eqb x (4 * c.src)) (reads10 c.src f.src) ∙ sws_wanted c.src f.src

    read_off10 : 1 ≤ c.src → eqb (bit_and (d + c.src + 4 * 0) 12) (4 * c.src) ≡ false
    read_off10 l = ap (λ x. eqb x (4 * c.src)) (reads10 0 (omega arith)) ∙ not_wanted c.src l f.src

    polls10 : (b : Bool) (p : ℕ) → (state10 b p).polls ≡ p
    unfolding state10
    polls10 b p = refl

    goes10 : (p : ℕ) → act (state10 true p) op10 ≡ (stepped.Went, state10 true 0)
    unfolding state10 op10
    goes10 p = rw (lawful10, read_on10) refl

    waits10 : 1 ≤ c.src → (p : ℕ) → p + 1 < 100000 → act (state10 false p) op10 ≡ (stepped.Waiting, state10 false (p + 1))
    unfolding state10 op10
    waits10 y p l = rw (lawful10, read_off10 y, below (p + 1) 100000 l) refl

    out10 : 1 ≤ c.src → (p : ℕ) → 100000 ≤ p + 1 → act (state10 false p) op10 ≡ (stepped.TimedOut timeout.Switch, state10 false 0)
    unfolding state10 op10
    out10 y p l = rw (lawful10, read_off10 y, not_below (p + 1) 100000 l) refl

    now10 : (b : Bool) (p : ℕ) → IsLegal tb want (state10 b p)
    unfolding state10
    now10 b p = legal10 1048576 0 reset_gpio b p (first_pins want.pins)

    sound10 : 1 ≤ c.src → S (op10 ∷ ops11) (state10 false 0)
    unfolding S
    sound10 y = sound_await (IsLegal tb want) (FieldsAre want sys c) state10 (λ a. a.switch) op10 ops11 100000 timeout.Switch (record {
      flags_are = flags10;
      comes = λ a h q l x y z. x;
      polls_are = polls10;
      goes_on = goes10;
      waits = waits10 y;
      times_out = out10 y;
      is_legal = now10;
      rest = sound11;
    }) false 0 (omega arith)

    -- ---- SW
    op9 : Op
    op9 = op.Modify reg.Cfgr 3 c.src

    state9 : State
    state9 = at pf oi by ax ay pw vn ov sw cr v d r hse pll c.wait 0 true 0

    sw_d : d % 4 ≡ 0
    sw_d = omega arith

    flags9 : (a : Answer) → flags a state9 ≡ state9
    unfolding state9
    flags9 a =
        flags_to pf oi by ax ay pw vn ov sw os a cr v d r hse pll c.wait 0 true 0 hse pll c.wait 0 (k.hse_stays a) (k.pll_stays a)
        (ap (λ x. cond a.latency x c.wait) low_r ∙ same_if a.latency c.wait)
        (ap (λ x. cond a.switch x 0) sw_d ∙ same_if a.switch 0)

    legal9 : IsLegal tb want state9
    unfolding state9
    legal9 = legal_hsi cr v d r hse pll c.wait true 0 sw_d t.rises k.vco_in k.vco

    value9 : bit_or (bit_and (d + 4 * 0) 4294967292) c.src ≡ d + c.src
    value9 =
        let whole_d : d + 4 * 0 ≡ tens * 16 = omega (arith, by_tens) in
        ap (λ x. bit_or (bit_and x 4294967292) c.src) whole_d ∙ switch_to tens c.src tens_small sw_small ∙ omega (arith, by_tens)

    others_d : bit_and d 4294902528 ≡ 0
    others_d =
        let plus : d ≡ d + 0 = omega arith in
        ap (λ x. bit_and x 4294902528) plus ∙ cfgr_others c.hcode c.code1 c.code2 0 f.hcode f.code1 f.code2 (omega arith)

    others_2 : bit_and (d + c.src) 4294902528 ≡ 0
    others_2 = cfgr_others c.hcode c.code1 c.code2 c.src f.hcode f.code1 f.code2 f.src

    kept9 : (d + c.src) % 4 + 16 * ((d + c.src) / 16) ≡ d + c.src
    kept9 = omega (arith, by_tens, f.src)

    stored9 : store state9 reg.Cfgr (d + c.src) ≡ (stepped.Went, state10 false 0)
    unfolding state9 state10
    stored9 = rw (kept9, sw_is c f c.src sw_small, k.ready, others_d, others_2) refl

    to_store9 : act state9 op9 ≡ store state9 reg.Cfgr (bit_or (bit_and (d + 4 * 0) 4294967292) c.src)
    unfolding state9 op9
    to_store9 = refl

    sound9 : 1 ≤ c.src → S (op9 ∷ op10 ∷ ops11) state9
    unfolding S
    sound9 y = sound_op (IsLegal tb want) (FieldsAre want sys c) op9 (op10 ∷ ops11) state9 (λ a. state10 false 0) legal9
        (λ a. subst (IsLegal tb want) (sym (flags9 a)) legal9)
        (λ a. ap (λ u. after op9 (op10 ∷ ops11) (act u op9)) (flags9 a) ∙ ap (after op9 (op10 ∷ ops11)) (to_store9 ∙ ap (store state9 reg.Cfgr) value9 ∙ stored9))
        (λ a. sound10 y)

    -- where SW stays, the state is the last one already
    same10 : c.src ≡ 0 → state10 true 0 ≡ state9
    unfolding state9 state10
    same10 e =
        let plus : d + c.src ≡ d = omega (arith, e) in
        ap (λ x. at pf oi by ax ay pw vn ov sw cr v x r hse pll c.wait c.src true 0) plus ∙ ap (λ s. at pf oi by ax ay pw vn ov sw cr v d r hse pll c.wait s true 0) e

    ops9 : List Op
    ops9 = switch_ops c.src ops11

    switch_if : (b : Bool) → eqb c.src 0 ≡ b → S (cond b ops11 (op9 ∷ op10 ∷ ops11)) state9
    unfolding S
    switch_if true e = subst (λ s. Sound (IsLegal tb want) (FieldsAre want sys c) ops11 s) (same10 (eqb-true c.src 0 e)) sound11
    switch_if false e = sound9 (least c.src e) where
      least : (s : ℕ) → eqb s 0 ≡ false → 1 ≤ s
      least s h = grind (arith, nat_tests)

    switch_sound : S ops9 state9
    unfolding ops9 op9 op10
    switch_sound = switch_if (eqb c.src 0) refl

    -- ---- the dividers
    op8 : Op
    op8 = op.Modify reg.Cfgr 64752 d

    state7 : Bool → ℕ → State
    state7 b p = at pf oi by ax ay pw vn ov sw cr v 0 r hse pll (cond b c.wait 0) 0 true p

    flags7 : (a : Answer) (b : Bool) (p : ℕ) → flags a (state7 b p) ≡ state7 (a.latency || b) p
    unfolding state7
    flags7 a b p =
        flags_to pf oi by ax ay pw vn ov sw os a cr v 0 r hse pll (cond b c.wait 0) 0 true p hse pll (cond (a.latency || b) c.wait 0) 0 (k.hse_stays a) (k.pll_stays a)
        (ap (λ x. cond a.latency x (cond b c.wait 0)) low_r ∙ taken a.latency b c.wait)
        (same_if a.switch 0)

    legal7 : (b : Bool) (p : ℕ) → IsLegal tb want (state7 b p)
    unfolding state7
    legal7 true p = legal_hsi cr v 0 r hse pll c.wait true p refl t.rises k.vco_in k.vco
    legal7 false p = legal_hsi cr v 0 r hse pll 0 true p refl first_row k.vco_in k.vco

    kept8 : d % 4 + 16 * (d / 16) ≡ d
    kept8 = omega (arith, by_tens)

    stored8 : act (state7 true 0) op8 ≡ (stepped.Went, state9)
    unfolding state7 state9 op8
    stored8 = rw (kept8, sw_d, others_d) refl

    sound8 : S (op8 ∷ ops9) (state7 true 0)
    unfolding S
    sound8 =
        let ops = ops9 in
        let same_flags : (a : Answer) → flags a (state7 true 0) ≡ state7 true 0 = λ a. flags7 a true 0 ∙ ap (λ b. state7 b 0) (still_true a.latency) in
        sound_op (IsLegal tb want) (FieldsAre want sys c) op8 ops (state7 true 0) (λ a. state9) (legal7 true 0)
        (λ a. subst (IsLegal tb want) (sym (same_flags a)) (legal7 true 0))
        (λ a. ap (λ u. after op8 ops (act u op8)) (same_flags a) ∙ ap (after op8 ops) stored8)
        (λ a. switch_sound)

    -- ---- await the latency
    op7 : Op
    op7 = op.Await reg.Acr 7 c.wait 1000 timeout.Latency

    ops8 : List Op
    ops8 = op8 ∷ ops9

    lawful7 : eqb c.wait (r % 8) ≡ true
    lawful7 = eq-eqb _ _ (sym low_r)

    read7 : (lat : ℕ) → lat < 8 → bit_and (r - r % 8 + lat) 7 ≡ lat
    read7 lat l = acr_reads pf c.wait lat f.wait l

    read_on7 : eqb (bit_and (r - r % 8 + c.wait) 7) c.wait ≡ true
    read_on7 = eq-eqb _ _ (read7 c.wait f.wait)

    read_off7 : 1 ≤ c.wait → eqb (bit_and (r - r % 8 + 0) 7) c.wait ≡ false
    read_off7 l = ap (λ x. eqb x c.wait) (read7 0 (omega arith)) ∙ not_zero c.wait l where
      not_zero : (w : ℕ) → 1 ≤ w → eqb 0 w ≡ false
      not_zero w h = grind (arith, nat_tests)

    goes7 : (p : ℕ) → act (state7 true p) op7 ≡ (stepped.Went, state7 true 0)
    unfolding state7 op7
    goes7 p = rw (lawful7, read_on7) refl

    polls7 : (b : Bool) (p : ℕ) → (state7 b p).polls ≡ p
    unfolding state7
    polls7 b p = refl

    waits7 : 1 ≤ c.wait → (p : ℕ) → p + 1 < 1000 → act (state7 false p) op7 ≡ (stepped.Waiting, state7 false (p + 1))
    unfolding state7 op7
    waits7 y p l = rw (lawful7, read_off7 y, below (p + 1) 1000 l) refl

    out7 : 1 ≤ c.wait → (p : ℕ) → 1000 ≤ p + 1 → act (state7 false p) op7 ≡ (stepped.TimedOut timeout.Latency, state7 false 0)
    unfolding state7 op7
    out7 y p l = rw (lawful7, read_off7 y, not_below (p + 1) 1000 l) refl

    -- where no wait is asked for, the states are one
    none_waits : c.wait ≡ 0 → (b : Bool) → state7 b 0 ≡ state7 true 0
    unfolding state7
    none_waits e true = refl
    none_waits e false = ap (λ l. at pf oi by ax ay pw vn ov sw cr v 0 r hse pll l 0 true 0) (sym e)

    sound7 : S (op7 ∷ ops8) (state7 false 0)
    unfolding S ops8
    sound7 = elim (cases_lt 0 c.wait) [
      | inl y ↦ sound_await (IsLegal tb want) (FieldsAre want sys c) state7 (λ a. a.latency) op7 ops8 1000 timeout.Latency (record {
        flags_are = flags7;
        comes = λ a h q l x y z. l;
        polls_are = polls7;
        goes_on = goes7;
        waits = waits7 (omega arith);
        times_out = out7 (omega arith);
        is_legal = legal7;
        rest = sound8;
      }) false 0 (omega arith)
      | inr z ↦
          let none : c.wait ≡ 0 = omega (arith, z) in
          let same_flags : (a : Answer) → flags a (state7 false 0) ≡ state7 true 0 = λ a. flags7 a false 0 ∙ none_waits none (a.latency || false) in
          sound_op (IsLegal tb want) (FieldsAre want sys c) op7 ops8 (state7 false 0) (λ a. state7 true 0) (legal7 false 0)
          (λ a. subst (IsLegal tb want) (sym (same_flags a)) (legal7 true 0))
          (λ a. ap (λ u. after op7 ops8 (act u op7)) (same_flags a) ∙ ap (after op7 ops8) (goes7 0))
          (λ a. sound8)
    ]

    -- ---- FLASH_ACR
    op6 : Op
    op6 = op.Write reg.Acr r

    state6 : State
    state6 = at pf oi by ax ay pw vn ov sw cr v 0 0 hse pll 0 0 false 0

    flags6 : (a : Answer) → flags a state6 ≡ state6
    unfolding state6
    flags6 a = flags_to pf oi by ax ay pw vn ov sw os a cr v 0 0 hse pll 0 0 false 0 hse pll 0 0 (k.hse_stays a) (k.pll_stays a) (same_if a.latency 0) (same_if a.switch 0)

    legal6 : IsLegal tb want state6
    unfolding state6
    legal6 = legal_hsi cr v 0 0 hse pll 0 false 0 refl first_row k.vco_in k.vco

    stored6 : act state6 op6 ≡ (stepped.Went, state7 false 0)
    unfolding state6 state7 op6
    stored6 = rw (acr_taken pf c.wait f.wait, acr_prefetch pf c.wait f.wait) refl

    pub late_sound : Sound (IsLegal tb want) (FieldsAre want sys c) (late_ops pf c (gpio_section pins)) (at pf oi by ax ay pw vn ov sw cr v 0 0 hse pll 0 0 false 0)
    unfolding S op6 op7 op8 ops8 ops9 ops11 state6
    late_sound =
        let ops = op7 ∷ ops8 in
        sound_op (IsLegal tb want) (FieldsAre want sys c) op6 ops state6 (λ a. state7 false 0) legal6
        (λ a. subst (IsLegal tb want) (sym (flags6 a)) legal6)
        (λ a. ap (λ u. after op6 ops (act u op6)) (flags6 a) ∙ ap (after op6 ops) stored6)
        (λ a. sound7)
