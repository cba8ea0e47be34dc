-- Over-drive, beside a PLL that is ready and not in effect, in front of the rest.
use Rattle.std.proofs.Common.{◌≡◌, ℕ, ◌+◌, ◌/◌, ◌%◌, ◌^◌, ◌<◌, ◌≤◌, List, ◌∷◌, get_or, Bool, true, false, ◌&&◌, ◌||◌, cond, eqb, Option, Some, None, refl, sym, subst, ap, ◌∙◌, arith}
use Rattle.std.specs.Prelude.{is_some, unwrap_or}
use Rattle.reg_map.specs.declared.register.Reg.TheVariants as reg
use Rattle.reg_machine.specs.declared.op.Timeout.TheVariants as timeout
use Rattle.reg_machine.specs.declared.op.Op.{Op}
use Rattle.reg_machine.specs.declared.op.Op.TheVariants as op
use Rattle.reg_machine.specs.declared.op.Answer.{Answer}
use Rattle.reg_machine.specs.declared.op.Stepped.TheVariants as stepped
use Rattle.reg_machine.specs.declared.state.State.{State}
use Rattle.reg_machine.specs.declared.state.Target.{Target}
use Rattle.reg_machine.specs.Legal.{IsLegal}
use Rattle.reg_machine.specs.Power.{scale_of, step_from}
use Rattle.reg_machine.specs.Run.{after, Sound}
use Rattle.reg_machine.specs.Step.{flags, act}
use Rattle.reg_machine.proofs.SoundLemmas.{sound_op, sound_await}
use Rattle.res_base.specs.Fraction.{Fraction}
use Rattle.res_model.specs.declared.table.Mode.{Mode}
use Rattle.res_model.specs.declared.table.TableParts.{TableParts}
use Rattle.init_gen.specs.Codes.{IsSmall}
use Rattle.init_gen.specs.PinWrites.{wanted, AreWhole, gpio_section}
use Rattle.init_gen.specs.Writes.{late_ops}
use Rattle.init_gen.specs.declared.setting.Codes.{Codes}
use Rattle.init_gen.specs.declared.setting.Setup.{Setup}
use Rattle.init_gen.proofs.Fitting.{CodesFit, TakesReset, HsiFits, TakesNow, FieldsAre, step_now}
use Rattle.init_gen.proofs.LateLemmas.{at, flags_all, flags_to, first_row, legal_hsi, late_sound, Stays, same_if, below, not_below, comes_to, none_comes, off_stays, on_stays}

-- the words of PWR_CR for scale 1 and for scale 2: VOS alone, with ODEN, and with ODSWEN too
unfoldable pub word0 : Bool → ℕ
word0 b = cond b 49152 32768

word1 : Bool → ℕ
word1 b = cond b 114688 98304

word2 : Bool → ℕ
word2 b = cond b 245760 229376

-- their bits
bit16_0 : (b : Bool) → eqb (word0 b / 2 ^ 16 % 2) 1 ≡ false
unfolding word0
bit16_0 true = refl
bit16_0 false = refl

bit17_0 : (b : Bool) → eqb (word0 b / 2 ^ 17 % 2) 1 ≡ false
unfolding word0
bit17_0 true = refl
bit17_0 false = refl

bit16_1 : (b : Bool) → eqb (word1 b / 2 ^ 16 % 2) 1 ≡ true
unfolding word1
bit16_1 true = refl
bit16_1 false = refl

bit17_1 : (b : Bool) → eqb (word1 b / 2 ^ 17 % 2) 1 ≡ false
unfolding word1
bit17_1 true = refl
bit17_1 false = refl

bit17_2 : (b : Bool) → eqb (word2 b / 2 ^ 17 % 2) 1 ≡ true
unfolding word2
bit17_2 true = refl
bit17_2 false = refl

-- the power steps of the scales
named_scale : (b : Bool) → step_from false (cond b 1 2) ≡ Some (cond b 1 2)
named_scale true = refl
named_scale false = refl

named_over : (b : Bool) → step_from true (cond b 1 2) ≡ Some (cond b 4 5)
named_over true = refl
named_over false = refl

pub takes_now : (tb : TableParts) (want : Target) (vn word : ℕ) (switched : Bool) (step : ℕ) → step_now vn word switched ≡ Some step → HsiFits tb want step → TakesNow tb want vn word switched
takes_now tb want vn word switched step e h = record { some = ap is_some e; hsi = subst (λ (o : Option ℕ). HsiFits tb want (unwrap_or o 0)) (sym e) h }

module _ (vn : ℕ) (two : eqb vn 1 ≡ false) where
  scale0 : (b : Bool) → scale_of vn (word0 b) ≡ cond b 1 2
  unfolding word0
  scale0 true = rw (two) refl
  scale0 false = rw (two) refl

  scale1 : (b : Bool) → scale_of vn (word1 b) ≡ cond b 1 2
  unfolding word1
  scale1 true = rw (two) refl
  scale1 false = rw (two) refl

  scale2 : (b : Bool) → scale_of vn (word2 b) ≡ cond b 1 2
  unfolding word2
  scale2 true = rw (two) refl
  scale2 false = rw (two) refl

  pub now0 : (b : Bool) → step_now vn (word0 b) false ≡ Some (cond b 1 2)
  now0 b = ap (step_from false) (scale0 b) ∙ named_scale b

  now1 : (b : Bool) → step_now vn (word1 b) false ≡ Some (cond b 1 2)
  now1 b = ap (step_from false) (scale1 b) ∙ named_scale b

  now2 : (b : Bool) → step_now vn (word2 b) false ≡ Some (cond b 1 2)
  now2 b = ap (step_from false) (scale2 b) ∙ named_scale b

  now3 : (b : Bool) → step_now vn (word2 b) true ≡ Some (cond b 4 5)
  now3 b = ap (step_from true) (scale2 b) ∙ named_over b

module _ (pf oi by : Bool) (ax ay vn : ℕ) (two : eqb vn 1 ≡ false) (enabled : eqb (ax / 2 ^ 28 % 2) 1 ≡ true) (noted : eqb (ay / 2 ^ 28 % 2) 1 ≡ true) (tb : TableParts) (want : Target) (sys : Fraction) (c : Codes) (f : IsSmall c) (t : TakesReset tb want c) (pins : List (Option Setup)) (link : (p : ℕ) → ◌≡◌ {A = Option Mode} (get_or want.pins p None) (wanted (get_or pins p None))) (g : CodesFit tb want sys c) (whole_pins : AreWhole pins) (cr v : ℕ) (hse : Bool) (k : Stays tb want sys c cr v hse true) (on : eqb (cr / 2 ^ 24 % 2) 1 ≡ true) (b : Bool) (scale_is : c.scale ≡ cond b 1 2) (step_is : c.step ≡ cond b 4 5) where
  S : List Op → State → Type 0
  S ops s = Sound (IsLegal tb want) (FieldsAre want sys c) ops s

  late : List Op
  late = late_ops pf c (gpio_section pins)

  at_scale : (word : ℕ) → step_now vn word false ≡ Some (cond b 1 2) → TakesNow tb want vn word false
  at_scale word e = takes_now tb want vn word false c.scale (e ∙ ap Some (sym scale_is)) t.scale

  at_step : TakesNow tb want vn (word2 b) true
  at_step = takes_now tb want vn (word2 b) true c.step (now3 vn two b ∙ ap Some (sym step_is)) t.step

  -- ---- the states: before ODEN, behind it, and behind ODSWEN
  state_a : State
  state_a = at pf oi by ax ay (word0 b) vn false false cr v 0 0 hse true 0 0 false 0

  state_b : Bool → ℕ → State
  state_b q p = at pf oi by ax ay (word1 b) vn q false cr v 0 0 hse true 0 0 false p

  state_c : Bool → ℕ → State
  state_c q p = at pf oi by ax ay (word2 b) vn true q cr v 0 0 hse true 0 0 false p

  flags_a : (a : Answer) → flags a state_a ≡ state_a
  unfolding state_a
  flags_a a = flags_to pf oi by ax ay (word0 b) vn false false (off_stays (word0 b) (bit16_0 b) (bit17_0 b)) a cr v 0 0 hse true 0 0 false 0 hse true 0 0 (k.hse_stays a) (k.pll_stays a) (same_if a.latency 0) (same_if a.switch 0)

  flags_b : (a : Answer) (q : Bool) (p : ℕ) → flags a (state_b q p) ≡ state_b (a.over || q) p
  unfolding state_b
  flags_b a q p =
      let comes = q || (a.over && (eqb (word1 b / 2 ^ 16 % 2) 1 && eqb (cr / 2 ^ 24 % 2) 1)) in
      flags_all pf oi by ax ay (word1 b) vn a q false cr v 0 0 hse true 0 0 false p hse true 0 0 (a.over || q) false (k.hse_stays a) (k.pll_stays a) (same_if a.latency 0) (same_if a.switch 0)
      (ap (λ (z : Bool). q || (a.over && (z && eqb (cr / 2 ^ 24 % 2) 1))) (bit16_1 b) ∙ ap (λ (z : Bool). q || (a.over && z)) on ∙ comes_to q a.over)
      (ap (λ (z : Bool). false || (a.over_switch && (z && comes))) (bit17_1 b) ∙ none_comes false a.over_switch)

  flags_c : (a : Answer) (q : Bool) (p : ℕ) → flags a (state_c q p) ≡ state_c (a.over_switch || q) p
  unfolding state_c
  flags_c a q p =
      flags_all pf oi by ax ay (word2 b) vn a true q cr v 0 0 hse true 0 0 false p hse true 0 0 true (a.over_switch || q) (k.hse_stays a) (k.pll_stays a) (same_if a.latency 0) (same_if a.switch 0) refl
      (ap (λ (z : Bool). q || (a.over_switch && (z && true))) (bit17_2 b) ∙ comes_to q a.over_switch)

  legal_a : IsLegal tb want state_a
  unfolding state_a
  legal_a =
      let h = at_scale (word0 b) (now0 vn two b) in
      legal_hsi pf oi by ax ay (word0 b) vn false false tb want sys c f t h cr v 0 0 hse true 0 false 0 refl (first_row pf oi by ax ay (word0 b) vn false false tb want sys c f t h) k.vco_in k.vco

  legal_b : (q : Bool) (p : ℕ) → IsLegal tb want (state_b q p)
  unfolding state_b
  legal_b q p =
      let h = at_scale (word1 b) (now1 vn two b) in
      legal_hsi pf oi by ax ay (word1 b) vn q false tb want sys c f t h cr v 0 0 hse true 0 false p refl (first_row pf oi by ax ay (word1 b) vn q false tb want sys c f t h) k.vco_in k.vco

  legal_c : (q : Bool) (p : ℕ) → IsLegal tb want (state_c q p)
  unfolding state_c
  legal_c false p =
      let h = at_scale (word2 b) (now2 vn two b) in
      legal_hsi pf oi by ax ay (word2 b) vn true false tb want sys c f t h cr v 0 0 hse true 0 false p refl (first_row pf oi by ax ay (word2 b) vn true false tb want sys c f t h) k.vco_in k.vco
  legal_c true p =
      legal_hsi pf oi by ax ay (word2 b) vn true true tb want sys c f t at_step cr v 0 0 hse true 0 false p refl (first_row pf oi by ax ay (word2 b) vn true true tb want sys c f t at_step) k.vco_in k.vco

  -- ---- the ops
  op_a : Op
  op_a = op.Modify reg.PwrCr 0 65536

  op_b : Op
  op_b = op.Await reg.PwrCsr 65536 65536 10000 timeout.Over

  op_c : Op
  op_c = op.Modify reg.PwrCr 0 131072

  op_d : Op
  op_d = op.Await reg.PwrCsr 131072 131072 10000 timeout.OverSwitch

  stored_a : act state_a op_a ≡ (stepped.Went, state_b false 0)
  unfolding state_a state_b op_a word0 word1
  stored_a = elim b as (λ x. act (at pf oi by ax ay (cond x 49152 32768) vn false false cr v 0 0 hse true 0 0 false 0) (op.Modify reg.PwrCr 0 65536) ≡ (stepped.Went, at pf oi by ax ay (cond x 114688 98304) vn false false cr v 0 0 hse true 0 0 false 0)) [
    | true ↦ rw (two, enabled, noted, on) refl
    | false ↦ rw (two, enabled, noted, on) refl
  ]

  stored_c : act (state_b true 0) op_c ≡ (stepped.Went, state_c false 0)
  unfolding state_b state_c op_c word1 word2
  stored_c = elim b as (λ x. act (at pf oi by ax ay (cond x 114688 98304) vn true false cr v 0 0 hse true 0 0 false 0) (op.Modify reg.PwrCr 0 131072) ≡ (stepped.Went, at pf oi by ax ay (cond x 245760 229376) vn true false cr v 0 0 hse true 0 0 false 0)) [
    | true ↦ rw (two, enabled, noted, on) refl
    | false ↦ rw (two, enabled, noted, on) refl
  ]

  goes_b : (p : ℕ) → act (state_b true p) op_b ≡ (stepped.Went, state_b true 0)
  unfolding state_b op_b
  goes_b p = rw (bit16_1 b) refl

  waits_b : (p : ℕ) → p + 1 < 10000 → act (state_b false p) op_b ≡ (stepped.Waiting, state_b false (p + 1))
  unfolding state_b op_b
  waits_b p l = rw (bit16_1 b, below (p + 1) 10000 l) refl

  out_b : (p : ℕ) → 10000 ≤ p + 1 → act (state_b false p) op_b ≡ (stepped.TimedOut timeout.Over, state_b false 0)
  unfolding state_b op_b
  out_b p l = rw (bit16_1 b, not_below (p + 1) 10000 l) refl

  polls_b : (q : Bool) (p : ℕ) → (state_b q p).polls ≡ p
  unfolding state_b
  polls_b q p = refl

  goes_d : (p : ℕ) → act (state_c true p) op_d ≡ (stepped.Went, state_c true 0)
  unfolding state_c op_d
  goes_d p = rw (bit17_2 b) refl

  waits_d : (p : ℕ) → p + 1 < 10000 → act (state_c false p) op_d ≡ (stepped.Waiting, state_c false (p + 1))
  unfolding state_c op_d
  waits_d p l = rw (bit17_2 b, below (p + 1) 10000 l) refl

  out_d : (p : ℕ) → 10000 ≤ p + 1 → act (state_c false p) op_d ≡ (stepped.TimedOut timeout.OverSwitch, state_c false 0)
  unfolding state_c op_d
  out_d p l = rw (bit17_2 b, not_below (p + 1) 10000 l) refl

  polls_d : (q : Bool) (p : ℕ) → (state_c q p).polls ≡ p
  unfolding state_c
  polls_d q p = refl

  -- ---- from the end to the beginning
  sound_e : S late (state_c true 0)
  unfolding S late state_c
  sound_e = late_sound pf oi by ax ay (word2 b) vn true true tb want sys c f t at_step pins link g whole_pins cr v hse true k (on_stays (word2 b)) (now3 vn two b ∙ ap Some (sym step_is))

  sound_d : S (op_d ∷ late) (state_c false 0)
  unfolding S
  sound_d = sound_await (IsLegal tb want) (FieldsAre want sys c) state_c (λ a. a.over_switch) op_d late 10000 timeout.OverSwitch (record {
    flags_are = flags_c;
    comes = λ a h q l x y z. z;
    polls_are = polls_d;
    goes_on = goes_d;
    waits = waits_d;
    times_out = out_d;
    is_legal = legal_c;
    rest = sound_e;
  }) false 0 (omega arith)

  -- ODSWEN, once over-drive is ready
  flags_ready : (a : Answer) → flags a (state_b true 0) ≡ state_b true 0
  flags_ready a = flags_b a true 0 ∙ ap (λ (q : Bool). state_b q 0) (or_true a.over)
    where
      or_true : (x : Bool) → (x || true) ≡ true
      or_true true = refl
      or_true false = refl

  sound_c : S (op_c ∷ op_d ∷ late) (state_b true 0)
  unfolding S
  sound_c = sound_op (IsLegal tb want) (FieldsAre want sys c) op_c (op_d ∷ late) (state_b true 0) (λ a. state_c false 0) (legal_b true 0)
      (λ a. subst (IsLegal tb want) (sym (flags_ready a)) (legal_b true 0))
      (λ a. ap (λ u. after op_c (op_d ∷ late) (act u op_c)) (flags_ready a) ∙ ap (after op_c (op_d ∷ late)) stored_c)
      (λ a. sound_d)

  sound_b : S (op_b ∷ op_c ∷ op_d ∷ late) (state_b false 0)
  unfolding S
  sound_b = sound_await (IsLegal tb want) (FieldsAre want sys c) state_b (λ a. a.over) op_b (op_c ∷ op_d ∷ late) 10000 timeout.Over (record {
    flags_are = flags_b;
    comes = λ a h q l x y z. y;
    polls_are = polls_b;
    goes_on = goes_b;
    waits = waits_b;
    times_out = out_b;
    is_legal = legal_b;
    rest = sound_c;
  }) false 0 (omega arith)

  pub over_sound : Sound (IsLegal tb want) (FieldsAre want sys c) (op.Modify reg.PwrCr 0 65536 ∷ op.Await reg.PwrCsr 65536 65536 10000 timeout.Over ∷ op.Modify reg.PwrCr 0 131072 ∷ op.Await reg.PwrCsr 131072 131072 10000 timeout.OverSwitch ∷ late_ops pf c (gpio_section pins)) (at pf oi by ax ay (word0 b) vn false false cr v 0 0 hse true 0 0 false 0)
  unfolding S op_a op_b op_c op_d late state_a
  over_sound = sound_op (IsLegal tb want) (FieldsAre want sys c) op_a (op_b ∷ op_c ∷ op_d ∷ late) state_a (λ a. state_b false 0) legal_a
      (λ a. subst (IsLegal tb want) (sym (flags_a a)) legal_a)
      (λ a. ap (λ u. after op_a (op_b ∷ op_c ∷ op_d ∷ late) (act u op_a)) (flags_a a) ∙ ap (after op_a (op_b ∷ op_c ∷ op_d ∷ late)) stored_a)
      (λ a. sound_b)
