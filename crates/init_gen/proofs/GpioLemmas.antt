-- The GPIO writes are sound: by induction on the pins, in front of any sound rest.
use Rattle.std.proofs.Common.{◌≡◌, ℕ, suc, ◌+◌, ◌-◌, ◌*◌, ◌/◌, ◌%◌, ◌^◌, ◌<◌, ◌≤◌, ◌≢◌, List, [], ◌∷◌, length, get_or, Bool, true, false, ◌&&◌, cond, eqb, bit_or, Option, Some, None, inl, inr, refl, sym, ap, subst, ◌∙◌, arith}
use Rattle.std.proofs.lemmas.Bool.{cases_lt, eq-eqb, eqb-true}
use Rattle.std.proofs.lemmas.Nat.Bits.{bit_at_or, bit_at-pow_same}
use Rattle.reg_map.specs.declared.register.GpioReg.{GpioReg}
use Rattle.reg_map.specs.declared.register.GpioReg.TheVariants as kind
use Rattle.reg_machine.specs.declared.op.Op.{Op}
use Rattle.reg_machine.specs.declared.op.Answer.{Answer}
use Rattle.res_model.specs.declared.table.Mode.{Mode}
use Rattle.res_model.specs.declared.table.Mode.TheVariants as mode
use Rattle.init_gen.specs.declared.setting.Setup.{Setup}
use Rattle.reg_machine.specs.declared.state.State.{State}
use Rattle.reg_map.specs.Fields.{bit_of}
use Rattle.reg_machine.specs.Words.{slot}
use Rattle.reg_machine.specs.Step.{flags, act}
use Rattle.reg_machine.specs.Run.{after, Running, Sound}
use Rattle.reg_machine.specs.Pins.{mode_field, mode_read, af_kind, af_field, is_debug, IsPinLegal, ArePinsLegal, HaveModes}
use Rattle.reg_machine.specs.Reset.{reset_gpio}
use Rattle.init_gen.specs.PinWrites.{mode_wanted, wanted, pull_code, speed_code, IsNarrow, AreWhole, field_op, pull_op, speed_op, type_op, af_op, mode_op, ops_in, is_left, gpio_ops, ports}
use Rattle.reg_machine.proofs.SoundLemmas.{sound_end, sound_op}
use Rattle.reg_map.proofs.BitLemmas.{at_below}
use Rattle.init_gen.proofs.PinLemmas.{put, Moved, quiet_mode, quiet_af, quiet_moved, af_mode, af_own, af_moved, mode_af, mode_own, mode_moved}

-- a state with other GPIO words
abbrev pub with_gpio : State → List ℕ → State
with_gpio s g = record s { gpio = g }

-- an op that is done leaves no polls, and there were none
pub idle_stays : (s : State) → s.polls ≡ 0 → record s { polls = 0 } ≡ s
idle_stays s e = ap (λ n. record s { polls = n }) (sym e)

-- the fields of a pin as at reset
abbrev pub reset_mode : ℕ → ℕ
reset_mode p = cond (is_debug p) 2 0

pub record AsReset (p m af : ℕ) : Type 0 where
  pub mode_is : m ≡ reset_mode p
  pub af_is : af ≡ 0

and_first : (a b : Bool) → (a && b) ≡ true → a ≡ true
and_first true b h = refl
and_first false b h = h

and_second : (a b : Bool) → (a && b) ≡ true → b ≡ true
and_second true b h = h
and_second false b h = cc

pub reset_pin : (q : ℕ) → q < 144 → AsReset q (mode_field q reset_gpio) (af_field q reset_gpio)
reset_pin q l =
    let h = at_below 144 q (λ x. eqb (mode_field x reset_gpio) (reset_mode x) && eqb (af_field x reset_gpio) 0) refl l in
    record {
      mode_is = eqb-true _ _ (and_first (eqb (mode_field q reset_gpio) (reset_mode q)) (eqb (af_field q reset_gpio) 0) h);
      af_is = eqb-true _ _ (and_second (eqb (mode_field q reset_gpio) (reset_mode q)) (eqb (af_field q reset_gpio) 0) h);
    }

-- the fields of a pin that is done
abbrev pub IsMode : Mode → ℕ → ℕ → ℕ → Type 0
IsMode (mode.Alt f) p m af = (m ≡ 2) × (af ≡ f)
IsMode mode.Output p m af = m ≡ 1
IsMode mode.Input p m af = m ≡ 0
IsMode mode.Analog p m af = m ≡ 3
IsMode mode.Exti p m af = m ≡ 0
IsMode mode.Osc p m af = AsReset p m af
IsMode mode.Held p m af = AsReset p m af

abbrev pub Fits : Option Setup → ℕ → ℕ → ℕ → Type 0
Fits None p m af = AsReset p m af
Fits (Some u) p m af = IsMode u.mode p m af

reset_debug : (b : Bool) → ◌≡◌ {A = ℕ} (cond b 2 0) 2 → b ≡ true
reset_debug true h = refl
reset_debug false h = absurd (omega (arith, h))

pub reset_legal : (o : Option Mode) (p m af : ℕ) → AsReset p m af → IsPinLegal o p m af
reset_legal o p m af r h = inr (reset_debug (is_debug p) (sym r.mode_is ∙ h), r.af_is)

mode_legal : (w : Mode) (p m af : ℕ) → IsMode w p m af → IsPinLegal (mode_wanted w) p m af
mode_legal (mode.Alt f) p m af r h = inl r.1
mode_legal mode.Output p m af r h = absurd (omega (arith, r, h))
mode_legal mode.Input p m af r h = absurd (omega (arith, r, h))
mode_legal mode.Analog p m af r h = absurd (omega (arith, r, h))
mode_legal mode.Exti p m af r h = absurd (omega (arith, r, h))
mode_legal mode.Osc p m af r h = reset_legal None p m af r h
mode_legal mode.Held p m af r h = reset_legal None p m af r h

pub fits_legal : (o : Option Setup) (p m af : ℕ) → Fits o p m af → IsPinLegal (wanted o) p m af
fits_legal None p m af r = reset_legal None p m af r
fits_legal (Some u) p m af r = mode_legal u.mode p m af r

-- the mode that is wanted of a pin that is done is there
read_alt : (f m af : ℕ) → m ≡ 2 → af ≡ f → mode_read m af ≡ mode.Alt f
read_alt f m af e d = ap (λ x. mode_read x af) e ∙ ap (λ x. mode.Alt x) d

read_as : (m af v : ℕ) (w : Mode) → m ≡ v → mode_read v af ≡ w → mode_read m af ≡ w
read_as m af v w e r = ap (λ x. mode_read x af) e ∙ r

mode_right : (w : Mode) (p m af : ℕ) (x : Mode) → IsMode w p m af → ◌≡◌ {A = Option Mode} (mode_wanted w) (Some x) → mode_read m af ≡ x
mode_right (mode.Alt f) p m af x r e = let s : mode.Alt f ≡ x = cc in read_alt f m af r.0 r.1 ∙ s
mode_right mode.Output p m af x r e = let s : mode.Output ≡ x = cc in read_as m af 1 mode.Output r refl ∙ s
mode_right mode.Input p m af x r e = let s : mode.Input ≡ x = cc in read_as m af 0 mode.Input r refl ∙ s
mode_right mode.Analog p m af x r e = let s : mode.Analog ≡ x = cc in read_as m af 3 mode.Analog r refl ∙ s
mode_right mode.Exti p m af x r e = let s : mode.Input ≡ x = cc in read_as m af 0 mode.Input r refl ∙ s
mode_right mode.Osc p m af x r e = absurd (cc)
mode_right mode.Held p m af x r e = absurd (cc)

none_wanted : (o : Option Setup) (x : Mode) → o ≡ None → ◌≡◌ {A = Option Mode} (wanted o) (Some x) → ⊥
none_wanted o x n e = let w : ◌≡◌ {A = Option Mode} (wanted o) None = ap wanted n in cc

fits_right : (o : Option Setup) (p m af : ℕ) (x : Mode) → Fits o p m af → ◌≡◌ {A = Option Mode} (wanted o) (Some x) → mode_read m af ≡ x
fits_right None p m af x r e = absurd (cc)
fits_right (Some u) p m af x r e = mode_right u.mode p m af x r e

off : ◌≡◌ {A = Bool} false true → ⊥
off h = cc

-- a pin that is left as it is
left_fits : (w : Mode) (p m af : ℕ) → is_left p w ≡ true → AsReset p m af → IsMode w p m af
left_fits (mode.Alt f) p m af h r =
    let zero_is : f ≡ 0 = eqb-true f 0 (and_second (is_debug p) (eqb f 0) h) in
    (r.mode_is ∙ ap (λ b. cond b 2 0) (and_first (is_debug p) (eqb f 0) h), r.af_is ∙ sym zero_is)
left_fits mode.Output p m af h r = absurd (off h)
left_fits mode.Input p m af h r = absurd (off h)
left_fits mode.Analog p m af h r = absurd (off h)
left_fits mode.Exti p m af h r = absurd (off h)
left_fits mode.Osc p m af h r = r
left_fits mode.Held p m af h r = r

-- the bits of the ports
pub or_left : (k x : ℕ) → bit_of k (bit_or (2 ^ k) x) ≡ true
or_left k x = eq-eqb _ 1 (omega (arith, bit_at_or (2 ^ k) x k, bit_at-pow_same k))

pub or_right : (k a x : ℕ) → bit_of k x ≡ true → bit_of k (bit_or a x) ≡ true
or_right k a x h = let e : x / 2 ^ k % 2 ≡ 1 = eqb-true _ 1 h in eq-eqb _ 1 (omega (arith, bit_at_or a x k, e))

module _ (legal right : State → Type 0) (base : State) (pins : List (Option Setup)) (wants : List (Option Mode))
    (link : (p : ℕ) → ◌≡◌ {A = Option Mode} (get_or wants p None) (wanted (get_or pins p None)))
    (settled : (a : Answer) → flags a base ≡ base) (idle : base.polls ≡ 0)
    (legal_of : (g : List ℕ) → ArePinsLegal wants g → legal (with_gpio base g)) where
  -- legality as the setups say it
  to_wants : (p m af : ℕ) → IsPinLegal (wanted (get_or pins p None)) p m af → IsPinLegal (get_or wants p None) p m af
  to_wants p m af h = subst (λ o. IsPinLegal o p m af) (sym (link p)) h

  -- the list when the pins before p are done, and p itself is under way
  pub record Mid (p : ℕ) (g : List ℕ) : Type 0 where
    pub size : length g ≡ 54
    pub before : (q : ℕ) → q < p → q < 144 → Fits (get_or pins q None) q (mode_field q g) (af_field q g)
    pub later : (q : ℕ) → p < q → q < 144 → AsReset q (mode_field q g) (af_field q g)

  mid_legal : (p : ℕ) (g : List ℕ) → Mid p g → IsPinLegal (wanted (get_or pins p None)) p (mode_field p g) (af_field p g) → ArePinsLegal wants g
  mid_legal p g d own = record {
    pin = λ q l. to_wants q (mode_field q g) (af_field q g) (elim (cases_lt q p) [
      | inl y ↦ fits_legal (get_or pins q None) q (mode_field q g) (af_field q g) (d.before q y l)
      | inr y ↦ elim (cases_lt p q) [
        | inl z ↦ reset_legal (wanted (get_or pins q None)) q (mode_field q g) (af_field q g) (d.later q z l)
        | inr z ↦ let e : p ≡ q = omega arith in subst (λ x. IsPinLegal (wanted (get_or pins x None)) x (mode_field x g) (af_field x g)) e own
      ]
    ]);
  }

  mid_moved : (p : ℕ) (g h : List ℕ) → Moved p g h → Mid p g → Mid p h
  mid_moved p g h m d = record {
    size = m.size;
    before = λ q l k.
        let ne : q ≢ p = λ e. omega (arith, e) in
        subst (λ x. Fits (get_or pins q None) q x (af_field q h)) (sym (m.mode q k ne)) (subst (λ x. Fits (get_or pins q None) q (mode_field q g) x) (sym (m.af q k ne)) (d.before q l k));
    later = λ q l k.
        let ne : q ≢ p = λ e. omega (arith, e) in
        subst (λ x. AsReset q x (af_field q h)) (sym (m.mode q k ne)) (subst (λ x. AsReset q (mode_field q g) x) (sym (m.af q k ne)) (d.later q l k));
  }

  still : (g : List ℕ) (a : Answer) → flags a (with_gpio base g) ≡ with_gpio base g
  still g a = ap (λ s. with_gpio s g) (settled a)

  -- the port's clock is on, and was read
  pub record IsOn (port : ℕ) : Type 0 where
    pub enabled : bit_of port base.ahb1enr ≡ true
    pub noted : bit_of port base.ahb_read ≡ true

  went : (port : ℕ) (k : GpioReg) (low width value : ℕ) (ops : List Op) (g : List ℕ) → IsOn port → after (field_op port k low width value) ops (act (with_gpio base g) (field_op port k low width value)) ≡ Running ops (with_gpio base (put g (slot port k) low width value))
  went port k low width value ops g on = rw (on.enabled, on.noted) (ap (Running ops) (idle_stays (with_gpio base (put g (slot port k) low width value)) idle))

  -- one modify
  gpio_op : (port : ℕ) (k : GpioReg) (low width value : ℕ) (ops : List Op) (g : List ℕ) → IsOn port → ArePinsLegal wants g → Sound legal right ops (with_gpio base (put g (slot port k) low width value)) → Sound legal right (field_op port k low width value ∷ ops) (with_gpio base g)
  gpio_op port k low width value ops g on l rest =
      let one = field_op port k low width value in
      sound_op legal right one ops (with_gpio base g) (λ a. with_gpio base (put g (slot port k) low width value)) (legal_of g l)
      (λ a. subst legal (sym (still g a)) (legal_of g l))
      (λ a. ap (λ s. after one ops (act s one)) (still g a) ∙ went port k low width value ops g on)
      (λ a. rest)

  -- sound from each list in which the pin p under way has these fields
  From : ℕ → ℕ → ℕ → List Op → Type 0
  From p m af ops = (g : List ℕ) → Mid p g → mode_field p g ≡ m → af_field p g ≡ af → Sound legal right ops (with_gpio base g)

  module _ (p m af : ℕ) (l : p < 144) (on : IsOn (p / 16)) (ok : IsPinLegal (wanted (get_or pins p None)) p m af) where
    now_legal : (g : List ℕ) → Mid p g → mode_field p g ≡ m → af_field p g ≡ af → ArePinsLegal wants g
    now_legal g d em ea = mid_legal p g d (subst (λ x. IsPinLegal (wanted (get_or pins p None)) p x (af_field p g)) (sym em) (subst (λ x. IsPinLegal (wanted (get_or pins p None)) p m x) (sym ea) ok))

    from_pull : (u : Setup) (ops : List Op) → From p m af ops → From p m af (pull_op p u ∷ ops)
    unfolding From
    from_pull u ops rest g d em ea =
        gpio_op (p / 16) kind.Pupdr (2 * (p % 16)) 2 (pull_code u.pull) ops g on (now_legal g d em ea)
        (rest _ (mid_moved p g _ (quiet_moved g p 3 _ d.size (omega arith) (omega arith)) d) (quiet_mode g p 3 _ p (omega arith) (omega arith) ∙ em) (quiet_af g p 3 _ p (omega arith) (omega arith) ∙ ea))

    from_speed : (u : Setup) (ops : List Op) → From p m af ops → From p m af (speed_op p u ∷ ops)
    unfolding From
    from_speed u ops rest g d em ea =
        gpio_op (p / 16) kind.Ospeedr (2 * (p % 16)) 2 (speed_code u.speed) ops g on (now_legal g d em ea)
        (rest _ (mid_moved p g _ (quiet_moved g p 2 _ d.size (omega arith) (omega arith)) d) (quiet_mode g p 2 _ p (omega arith) (omega arith) ∙ em) (quiet_af g p 2 _ p (omega arith) (omega arith) ∙ ea))

    from_type : (u : Setup) (ops : List Op) → From p m af ops → From p m af (type_op p u ∷ ops)
    unfolding From
    from_type u ops rest g d em ea =
        gpio_op (p / 16) kind.Otyper (p % 16) 1 (cond u.drain 1 0) ops g on (now_legal g d em ea)
        (rest _ (mid_moved p g _ (quiet_moved g p 1 _ d.size (omega arith) (omega arith)) d) (quiet_mode g p 1 _ p (omega arith) (omega arith) ∙ em) (quiet_af g p 1 _ p (omega arith) (omega arith) ∙ ea))

    from_af : (f : ℕ) (ops : List Op) → f < 16 → From p m f ops → From p m af (af_op p f ∷ ops)
    unfolding From
    from_af f ops s rest g d em ea =
        gpio_op (p / 16) (af_kind p) (4 * (p % 8)) 4 f ops g on (now_legal g d em ea)
        (rest _ (mid_moved p g _ (af_moved g p f d.size l s) d) (af_mode g p f d.size l s p ∙ em) (af_own g p f d.size l s))

    from_mode : (v : ℕ) (ops : List Op) → v < 4 → From p v af ops → From p m af (mode_op p v ∷ ops)
    unfolding From
    from_mode v ops s rest g d em ea =
        gpio_op (p / 16) kind.Moder (2 * (p % 16)) 2 v ops g on (now_legal g d em ea)
        (rest _ (mid_moved p g _ (mode_moved g p v d.size l s) d) (mode_own g p v d.size l s) (mode_af g p v d.size l s p ∙ ea))

  -- ---- a pin
  -- sound from each list in which the pins before p are done
  pub record Inv (p : ℕ) (g : List ℕ) : Type 0 where
    pub size : length g ≡ 54
    pub before : (q : ℕ) → q < p → q < 144 → Fits (get_or pins q None) q (mode_field q g) (af_field q g)
    pub later : (q : ℕ) → p ≤ q → q < 144 → AsReset q (mode_field q g) (af_field q g)

  done : (p : ℕ) (g : List ℕ) → Mid p g → Fits (get_or pins p None) p (mode_field p g) (af_field p g) → Inv (suc p) g
  done p g d own = record {
    size = d.size;
    before = λ q l k. elim (cases_lt q p) [
      | inl y ↦ d.before q y k
      | inr y ↦ let e : p ≡ q = omega arith in subst (λ x. Fits (get_or pins x None) x (mode_field x g) (af_field x g)) e own
    ];
    later = λ q l k. d.later q (omega arith) k;
  }

  to_mid : (p : ℕ) (g : List ℕ) → Inv p g → Mid p g
  to_mid p g i = record { size = i.size; before = i.before; later = λ q l k. i.later q (omega arith) k }

  SoundFrom : ℕ → List Op → Type 0
  SoundFrom p ops = (g : List ℕ) → Inv p g → Sound legal right ops (with_gpio base g)

  -- the pin's last write is done
  last : (p m af : ℕ) (ops : List Op) → Fits (get_or pins p None) p m af → SoundFrom (suc p) ops → From p m af ops
  unfolding From SoundFrom
  last p m af ops fits rest g d em ea =
      rest g (done p g d (subst (λ x. Fits (get_or pins p None) p x (af_field p g)) (sym em) (subst (λ x. Fits (get_or pins p None) p m x) (sym ea) fits)))

  fits_as : (p : ℕ) (u : Setup) (m af : ℕ) → ◌≡◌ {A = Option Setup} (get_or pins p None) (Some u) → IsMode u.mode p m af → Fits (get_or pins p None) p m af
  fits_as p u m af e r = subst (λ o. Fits o p m af) (sym e) r

  pin_from : (w : Mode) (p : ℕ) (u : Setup) (ops : List Op) → p < 144 → IsOn (p / 16) → ◌≡◌ {A = Option Setup} (get_or pins p None) (Some u) → u.mode ≡ w → IsNarrow w → is_left p w ≡ false → SoundFrom (suc p) ops → From p (reset_mode p) 0 (ops_in w p u ops)
  pin_from (mode.Alt f) p u ops l on e ew s n rest =
      let ok = reset_legal (wanted (get_or pins p None)) p (reset_mode p) 0 (record { mode_is = refl; af_is = refl }) in
      let fits : Fits (get_or pins p None) p 2 f = fits_as p u 2 f e (subst (λ x. IsMode x p 2 f) (sym ew) (refl, refl)) in
      let chosen : IsPinLegal (wanted (get_or pins p None)) p (reset_mode p) f = λ h. fits_legal (get_or pins p None) p 2 f fits refl in
      from_pull p (reset_mode p) 0 l on ok u _ (from_speed p (reset_mode p) 0 l on ok u _ (from_type p (reset_mode p) 0 l on ok u _
      (from_af p (reset_mode p) 0 l on ok f _ s (from_mode p (reset_mode p) f l on chosen 2 ops (omega arith) (last p 2 f ops fits rest)))))
  pin_from mode.Output p u ops l on e ew s n rest =
      let ok = reset_legal (wanted (get_or pins p None)) p (reset_mode p) 0 (record { mode_is = refl; af_is = refl }) in
      let fits : Fits (get_or pins p None) p 1 0 = fits_as p u 1 0 e (subst (λ x. IsMode x p 1 0) (sym ew) refl) in
      from_pull p (reset_mode p) 0 l on ok u _ (from_speed p (reset_mode p) 0 l on ok u _ (from_type p (reset_mode p) 0 l on ok u _
      (from_mode p (reset_mode p) 0 l on ok 1 ops (omega arith) (last p 1 0 ops fits rest))))
  pin_from mode.Input p u ops l on e ew s n rest =
      let ok = reset_legal (wanted (get_or pins p None)) p (reset_mode p) 0 (record { mode_is = refl; af_is = refl }) in
      let fits : Fits (get_or pins p None) p 0 0 = fits_as p u 0 0 e (subst (λ x. IsMode x p 0 0) (sym ew) refl) in
      from_pull p (reset_mode p) 0 l on ok u _ (from_mode p (reset_mode p) 0 l on ok 0 ops (omega arith) (last p 0 0 ops fits rest))
  pin_from mode.Analog p u ops l on e ew s n rest =
      let ok = reset_legal (wanted (get_or pins p None)) p (reset_mode p) 0 (record { mode_is = refl; af_is = refl }) in
      let fits : Fits (get_or pins p None) p 3 0 = fits_as p u 3 0 e (subst (λ x. IsMode x p 3 0) (sym ew) refl) in
      from_pull p (reset_mode p) 0 l on ok u _ (from_mode p (reset_mode p) 0 l on ok 3 ops (omega arith) (last p 3 0 ops fits rest))
  pin_from mode.Exti p u ops l on e ew s n rest =
      let ok = reset_legal (wanted (get_or pins p None)) p (reset_mode p) 0 (record { mode_is = refl; af_is = refl }) in
      let fits : Fits (get_or pins p None) p 0 0 = fits_as p u 0 0 e (subst (λ x. IsMode x p 0 0) (sym ew) refl) in
      from_pull p (reset_mode p) 0 l on ok u _ (from_mode p (reset_mode p) 0 l on ok 0 ops (omega arith) (last p 0 0 ops fits rest))
  pin_from mode.Osc p u ops l on e ew s n rest = absurd (off (sym n))
  pin_from mode.Held p u ops l on e ew s n rest = absurd (off (sym n))

  pin_sound : (p : ℕ) (u : Setup) (ops : List Op) → p < 144 → IsOn (p / 16) → ◌≡◌ {A = Option Setup} (get_or pins p None) (Some u) → IsNarrow u.mode → is_left p u.mode ≡ false → SoundFrom (suc p) ops → SoundFrom p (ops_in u.mode p u ops)
  unfolding From SoundFrom
  pin_sound p u ops l on e s n rest g i =
      pin_from u.mode p u ops l on e refl s n rest g (to_mid p g i) (i.later p (omega arith) l).mode_is (i.later p (omega arith) l).af_is

  -- ---- all pins
  module _ (whole : AreWhole pins) (right_of : (g : List ℕ) → HaveModes wants g → right (with_gpio base g)) where
    end_legal : (p : ℕ) (g : List ℕ) → Inv p g → ArePinsLegal wants g
    end_legal p g i = record {
      pin = λ q l. to_wants q (mode_field q g) (af_field q g) (elim (cases_lt q p) [
        | inl y ↦ fits_legal (get_or pins q None) q (mode_field q g) (af_field q g) (i.before q y l)
        | inr y ↦ reset_legal (wanted (get_or pins q None)) q (mode_field q g) (af_field q g) (i.later q y l)
      ]);
    }

    -- the pins from p on are these
    Tail : ℕ → List (Option Setup) → Type 0
    Tail p rest = (q k : ℕ) → q ≡ p + k → ◌≡◌ {A = Option Setup} (get_or pins q None) (get_or rest k None)

    end_modes : (p : ℕ) (g : List ℕ) → Tail p [] → Inv p g → HaveModes wants g
    unfolding Tail
    end_modes p g tail i = record {
      pin = λ q l m e. elim (cases_lt q p) [
        | inl y ↦ fits_right (get_or pins q None) q (mode_field q g) (af_field q g) m (i.before q y l) (sym (link q) ∙ e)
        | inr y ↦
            let n : ◌≡◌ {A = Option Setup} (get_or pins q None) None = tail q (q - p) (omega arith) in
            absurd (none_wanted (get_or pins q None) m n (sym (link q) ∙ e))
      ];
    }

    -- one pin more
    some_from : (b : Bool) (p : ℕ) (u : Setup) (rest : List (Option Setup)) → is_left p u.mode ≡ b → ◌≡◌ {A = Option Setup} (get_or pins p None) (Some u) → p < 144
        → ((k : ℕ) → bit_of k (cond b (ports (suc p) rest) (bit_or (2 ^ (p / 16)) (ports (suc p) rest))) ≡ true → IsOn k)
        → (((k : ℕ) → bit_of k (ports (suc p) rest) ≡ true → IsOn k) → SoundFrom (suc p) (gpio_ops (suc p) rest))
        → SoundFrom p (cond b (gpio_ops (suc p) rest) (ops_in u.mode p u (gpio_ops (suc p) rest)))
    unfolding SoundFrom
    some_from true p u rest held e l on more g i =
        more on g (done p g (to_mid p g i) (fits_as p u (mode_field p g) (af_field p g) e (left_fits u.mode p (mode_field p g) (af_field p g) held (i.later p (omega arith) l))))
    some_from false p u rest held e l on more g i =
        pin_sound p u (gpio_ops (suc p) rest) l (on (p / 16) (or_left (p / 16) (ports (suc p) rest))) e (whole.setup p u e) held
        (more (λ k h. on k (or_right k (2 ^ (p / 16)) (ports (suc p) rest) h))) g i

    gpio_from : (p : ℕ) (rest : List (Option Setup)) → Tail p rest → p + length rest ≤ 144 → ((k : ℕ) → bit_of k (ports p rest) ≡ true → IsOn k) → SoundFrom p (gpio_ops p rest)
    unfolding SoundFrom Tail
    gpio_from p [] tail len on g i = sound_end legal right (with_gpio base g) (legal_of g (end_legal p g i)) (right_of g (end_modes p g tail i))
    gpio_from p (None ∷ rest) tail len on g i =
        gpio_from (suc p) rest (λ q k e. tail q (suc k) (omega (arith, e))) (omega arith) on g
        (done p g (to_mid p g i) (subst (λ o. Fits o p (mode_field p g) (af_field p g)) (sym (tail p 0 (omega arith))) (i.later p (omega arith) (omega arith))))
    gpio_from p (Some u ∷ rest) tail len on g i =
        some_from (is_left p u.mode) p u rest refl (tail p 0 (omega arith)) (omega arith) on
        (λ h. gpio_from (suc p) rest (λ q k e. tail q (suc k) (omega (arith, e))) (omega arith) h) g i

    -- from reset, where each port that is named is on
    pub gpio_sound : ((k : ℕ) → bit_of k (ports 0 pins) ≡ true → IsOn k) → Sound legal right (gpio_ops 0 pins) (with_gpio base reset_gpio)
    unfolding SoundFrom Tail
    gpio_sound on = gpio_from 0 pins (λ q k e. ap (λ n. get_or pins n None) (omega (arith, e))) (omega (arith, whole.few)) on reset_gpio (record {
      size = refl;
      before = λ q l k. absurd (omega arith);
      later = λ q l k. reset_pin q k;
    })
