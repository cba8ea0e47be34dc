-- The enables of the ports, and the pins.
use Rattle.std.proofs.Common.{◌≡◌, ℕ, suc, ◌+◌, ◌/◌, ◌%◌, ◌^◌, ◌<◌, ◌≤◌, List, [], ◌∷◌, length, get_or, Bool, true, false, cond, eqb, bit_or, Option, Some, None, refl, sym, ap, subst, ◌∙◌, arith}
use Rattle.std.proofs.lemmas.Bool.{eq-eqb, eqb-true}
use Rattle.std.proofs.lemmas.Nat.{or_lt, or_block, or_shifted, le_or_l, pow_pos, pow_below}
use Rattle.std.proofs.lemmas.Nat.Bits.{bit_at-zero}
use Rattle.reg_map.specs.declared.register.Reg.TheVariants as reg
use Rattle.reg_machine.specs.declared.op.Op.{Op}
use Rattle.reg_machine.specs.declared.op.Op.TheVariants as op
use Rattle.reg_machine.specs.declared.op.Answer.{Answer}
use Rattle.init_gen.specs.declared.setting.Setup.{Setup}
use Rattle.reg_machine.specs.declared.state.State.{State}
use Rattle.reg_map.specs.Fields.{bit_of}
use Rattle.reg_machine.specs.Step.{flags, act}
use Rattle.reg_machine.specs.Run.{after, Running, Sound}
use Rattle.reg_machine.specs.Pins.{ArePinsLegal, HaveModes}
use Rattle.reg_machine.specs.Reset.{reset_gpio}
use Rattle.res_model.specs.declared.table.Mode.{Mode}
use Rattle.init_gen.specs.PinWrites.{wanted, AreWhole, ops_in, is_left, gpio_ops, ports, gpio_section}
use Rattle.reg_machine.proofs.SoundLemmas.{sound_op}
use Rattle.init_gen.proofs.GpioLemmas.{idle_stays, reset_pin, reset_legal, or_right, gpio_sound}

-- the ports are few
ports_if : (b : Bool) (p x : ℕ) → p < 144 → x < 512 → cond b x (bit_or (2 ^ (p / 16)) x) < 512
ports_if true p x l h = h
ports_if false p x l h = or_lt 9 (2 ^ (p / 16)) x (pow_below (p / 16) 9 (omega arith)) h

ports_small : (p : ℕ) (pins : List (Option Setup)) → p + length pins ≤ 144 → ports p pins < 512
ports_small p [] l = omega arith
ports_small p (None ∷ pins) l = ports_small (suc p) pins (omega arith)
ports_small p (Some u ∷ pins) l = ports_if (is_left p u.mode) p (ports (suc p) pins) (omega arith) (ports_small (suc p) pins (omega arith))

-- where no port is named, no pin is set up
empty_if : (b : Bool) (p x : ℕ) (most some : List Op) → cond b x (bit_or (2 ^ (p / 16)) x) ≡ 0 → (x ≡ 0 → most ≡ []) → cond b most some ≡ []
empty_if true p x most some e h = h e
empty_if false p x most some e h = absurd (omega (arith, le_or_l (2 ^ (p / 16)) x, pow_pos (p / 16), e))

empty_ops : (p : ℕ) (pins : List (Option Setup)) → ports p pins ≡ 0 → gpio_ops p pins ≡ []
empty_ops p [] e = refl
empty_ops p (None ∷ pins) e = empty_ops (suc p) pins e
empty_ops p (Some u ∷ pins) e = empty_if (is_left p u.mode) p (ports (suc p) pins) (gpio_ops (suc p) pins) (ops_in u.mode p u (gpio_ops (suc p) pins)) e (empty_ops (suc p) pins)

-- the word with the ports' bits
enabled : (m : ℕ) → m < 512 → bit_or 1048576 m ≡ 1048576 + m
enabled m l = or_shifted 1 20 m (omega arith)

same_above : (m : ℕ) → m < 512 → eqb 2048 (bit_or 1048576 m / 512) ≡ true
same_above m l = eq-eqb _ _ (rw (enabled m l) (omega arith))

nothing_cleared : (m : ℕ) → m < 512 → eqb (bit_or 1048576 (bit_or 1048576 m)) (bit_or 1048576 m) ≡ true
nothing_cleared m l = eq-eqb _ _ (rw (enabled m l) (or_block 20 1 1 0 m (omega arith) (omega arith)))

abbrev pub with_ports : State → ℕ → ℕ → List ℕ → State
with_ports s n r g = record s { ahb1enr = n; ahb_read = r; gpio = g }

module _ (legal right : State → Type 0) (base : State) (pins : List (Option Setup)) (wants : List (Option Mode)) (link : (p : ℕ) → ◌≡◌ {A = Option Mode} (get_or wants p None) (wanted (get_or pins p None))) (whole : AreWhole pins)
    (settled : (a : Answer) → flags a base ≡ base) (idle : base.polls ≡ 0)
    (legal_of : (n r : ℕ) (g : List ℕ) → ArePinsLegal wants g → legal (with_ports base n r g))
    (right_of : (n r : ℕ) (g : List ℕ) → HaveModes wants g → right (with_ports base n r g)) where
  still : (n r : ℕ) (g : List ℕ) (a : Answer) → flags a (with_ports base n r g) ≡ with_ports base n r g
  still n r g a = ap (λ s. with_ports s n r g) (settled a)

  first_legal : ArePinsLegal wants reset_gpio
  first_legal = record { pin = λ q l. reset_legal (get_or wants q None) q _ _ (reset_pin q l) }

  -- from the pins on
  pins_sound : (n r : ℕ) → ((k : ℕ) → bit_of k (ports 0 pins) ≡ true → (bit_of k n ≡ true) × (bit_of k r ≡ true)) → Sound legal right (gpio_ops 0 pins) (with_ports base n r reset_gpio)
  pins_sound n r on =
      gpio_sound legal right (with_ports base n r reset_gpio) pins wants link (still n r reset_gpio) idle (λ g l. legal_of n r g l) whole (λ g m. right_of n r g m)
      (λ k h. let t = on k h in record { enabled = t.0; noted = t.1 })

  bars_not : (ops : List Op) → after (op.Modify reg.Ahb1enr 0 (ports 0 pins)) ops (act (with_ports base 1048576 0 reset_gpio) (op.Modify reg.Ahb1enr 0 (ports 0 pins))) ≡ Running ops (with_ports base (bit_or 1048576 (ports 0 pins)) 0 reset_gpio)
  bars_not ops =
      let l = ports_small 0 pins (omega (arith, whole.few)) in
      rw (same_above (ports 0 pins) l, nothing_cleared (ports 0 pins) l) (ap (Running ops) (idle_stays (with_ports base (bit_or 1048576 (ports 0 pins)) 0 reset_gpio) idle))

  some_sound : Sound legal right (op.Modify reg.Ahb1enr 0 (ports 0 pins) ∷ op.Read reg.Ahb1enr ∷ gpio_ops 0 pins) (with_ports base 1048576 0 reset_gpio)
  some_sound =
      let v = bit_or 1048576 (ports 0 pins) in
      let one = op.Modify reg.Ahb1enr 0 (ports 0 pins) in
      let two = op.Read reg.Ahb1enr in
      sound_op legal right one (two ∷ gpio_ops 0 pins) (with_ports base 1048576 0 reset_gpio) (λ a. with_ports base v 0 reset_gpio) (legal_of 1048576 0 reset_gpio first_legal)
      (λ a. subst legal (sym (still 1048576 0 reset_gpio a)) (legal_of 1048576 0 reset_gpio first_legal))
      (λ a. ap (λ s. after one (two ∷ gpio_ops 0 pins) (act s one)) (still 1048576 0 reset_gpio a) ∙ bars_not (two ∷ gpio_ops 0 pins))
      (λ a. sound_op legal right two (gpio_ops 0 pins) (with_ports base v 0 reset_gpio) (λ b. with_ports base v v reset_gpio) (legal_of v 0 reset_gpio first_legal)
      (λ b. subst legal (sym (still v 0 reset_gpio b)) (legal_of v 0 reset_gpio first_legal))
      (λ b. ap (λ s. after two (gpio_ops 0 pins) (act s two)) (still v 0 reset_gpio b) ∙ ap (Running (gpio_ops 0 pins)) (idle_stays (with_ports base v v reset_gpio) idle))
      (λ b. pins_sound v v (λ k h. (or_right k 1048576 (ports 0 pins) h, or_right k 1048576 (ports 0 pins) h))))

  section_if : (b : Bool) → eqb (ports 0 pins) 0 ≡ b → Sound legal right (cond b [] (op.Modify reg.Ahb1enr 0 (ports 0 pins) ∷ op.Read reg.Ahb1enr ∷ gpio_ops 0 pins)) (with_ports base 1048576 0 reset_gpio)
  section_if true e =
      let z : ports 0 pins ≡ 0 = eqb-true _ 0 e in
      subst (λ ops. Sound legal right ops (with_ports base 1048576 0 reset_gpio)) (empty_ops 0 pins z)
      (pins_sound 1048576 0 (λ k h. absurd (none_named k z h)))
    where
      none_named : (k : ℕ) → ports 0 pins ≡ 0 → bit_of k (ports 0 pins) ≡ true → ⊥
      none_named k z h =
          let e : ports 0 pins / 2 ^ k % 2 ≡ 1 = eqb-true _ 1 h in
          let f : 0 / 2 ^ k % 2 ≡ 1 = subst (λ n. n / 2 ^ k % 2 ≡ 1) z e in
          omega (arith, f, bit_at-zero k)
  section_if false e = some_sound

  pub section_sound : Sound legal right (gpio_section pins) (with_ports base 1048576 0 reset_gpio)
  section_sound = section_if (eqb (ports 0 pins) 0) refl
