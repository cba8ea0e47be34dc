-- The accesses of a setting fit their lines.
use Rattle.std.proofs.Common.{◌≡◌, ℕ, suc, ◌+◌, ◌-◌, ◌*◌, ◌/◌, ◌%◌, ◌^◌, ◌<◌, ◌≤◌, ◌==◌, Bool, true, false, List, [], ◌∷◌, length, get_or, bit_or, Option, Some, None, refl, lt_of_lt_of_le, arith}
use Rattle.std.specs.Prelude.{if◌then◌else◌}
use Rattle.std.proofs.Math.Pow.{shl_lt, pow_mono}
use Rattle.std.proofs.lemmas.Nat.{or_lt, pow_below, pow_pos}
use Rattle.res_base.specs.Lists.{Each}
use Rattle.res_model.specs.declared.project.Pull.{Pull}
use Rattle.res_model.specs.declared.project.Pull.TheVariants as pull
use Rattle.res_model.specs.declared.project.Speed.{Speed}
use Rattle.res_model.specs.declared.project.Speed.TheVariants as speed
use Rattle.res_model.specs.declared.table.Mode.{Mode}
use Rattle.res_model.specs.declared.table.Mode.TheVariants as mode
use Rattle.reg_map.specs.declared.register.GpioReg.{GpioReg}
use Rattle.reg_map.specs.declared.register.GpioReg.TheVariants as kind
use Rattle.reg_map.specs.declared.register.Reg.TheVariants as reg
use Rattle.reg_machine.specs.Pins.{af_kind}
use Rattle.reg_machine.specs.declared.op.Op.{Op}
use Rattle.reg_machine.specs.declared.op.Op.TheVariants as op
use Rattle.c_print.specs.Reading.{FitsLine}
use Rattle.init_gen.specs.Codes.{codes_of, IsSmall}
use Rattle.init_gen.specs.Good.{IsSettable}
use Rattle.init_gen.specs.PinWrites.{pull_code, speed_code, field_op, pull_op, speed_op, type_op, af_op, mode_op, ops_in, is_left, gpio_ops, ports, gpio_section, IsNarrow, IsGiven, AreWhole}
use Rattle.init_gen.specs.Writes.{acr_word, scale_ops, vos_ops, hse_ops, pll_ops, over_ops, switch_ops, late_ops, writes_of}
use Rattle.init_gen.specs.declared.setting.Codes.{Codes}
use Rattle.init_gen.specs.declared.setting.Oscillator.{Oscillator}
use Rattle.init_gen.specs.declared.setting.Oscillator.TheVariants as oscillator
use Rattle.init_gen.specs.declared.setting.Setting.{Setting}
use Rattle.init_gen.specs.declared.setting.Setup.{Setup}
use Rattle.init_gen.proofs.SettingLemmas.{small}

-- ---- a field of a port's register
in_word : (low width value : ℕ) → low + width ≤ 32 → value < 2 ^ width → value * 2 ^ low < 2 ^ 32
in_word low width value l h = lt_of_lt_of_le (shl_lt {a = value} width low h) (pow_mono {i = width + low} {j = 32} (omega (arith, l)))

field_fits : (port : ℕ) (k : GpioReg) (low width value : ℕ) → port < 9 → low + width ≤ 32 → value < 2 ^ width → FitsLine (field_op port k low width value)
field_fits port k low width value p l h = (p, in_word low width (2 ^ width - 1) l (omega (arith, pow_pos width)), in_word low width value l h)

pull_small : (x : Pull) → pull_code x < 4
pull_small pull.None = omega arith
pull_small pull.Up = omega arith
pull_small pull.Down = omega arith

speed_small : (x : Speed) → speed_code x < 4
speed_small speed.Low = omega arith
speed_small speed.Medium = omega arith
speed_small speed.High = omega arith
speed_small speed.VeryHigh = omega arith

bit_small : (b : Bool) → (if b then 1 else 0) < 2
bit_small true = omega arith
bit_small false = omega arith

-- ---- the accesses of a pin
module _ (p : ℕ) (l : p / 16 < 9) where
  of_pull : (u : Setup) → FitsLine (pull_op p u)
  of_pull u = field_fits (p / 16) kind.Pupdr (2 * (p % 16)) 2 (pull_code u.pull) l (omega arith) (pull_small u.pull)

  of_speed : (u : Setup) → FitsLine (speed_op p u)
  of_speed u = field_fits (p / 16) kind.Ospeedr (2 * (p % 16)) 2 (speed_code u.speed) l (omega arith) (speed_small u.speed)

  of_type : (u : Setup) → FitsLine (type_op p u)
  of_type u = field_fits (p / 16) kind.Otyper (p % 16) 1 (if u.drain then 1 else 0) l (omega arith) (bit_small u.drain)

  of_af : (f : ℕ) → f < 16 → FitsLine (af_op p f)
  of_af f h = field_fits (p / 16) (af_kind p) (4 * (p % 8)) 4 f l (omega arith) h

  of_mode : (m : ℕ) → m < 4 → FitsLine (mode_op p m)
  of_mode m h = field_fits (p / 16) kind.Moder (2 * (p % 16)) 2 m l (omega arith) h

  in_mode : (m : Mode) (u : Setup) (rest : List Op) → IsNarrow m → Each FitsLine rest → Each FitsLine (ops_in m p u rest)
  in_mode (mode.Alt f) u rest n h = (of_pull u, (of_speed u, (of_type u, (of_af f n, (of_mode 2 (omega arith), h)))))
  in_mode mode.Input u rest n h = (of_pull u, (of_mode 0 (omega arith), h))
  in_mode mode.Output u rest n h = (of_pull u, (of_speed u, (of_type u, (of_mode 1 (omega arith), h))))
  in_mode mode.Analog u rest n h = (of_pull u, (of_mode 3 (omega arith), h))
  in_mode mode.Exti u rest n h = (of_pull u, (of_mode 0 (omega arith), h))
  in_mode mode.Osc u rest n h = h
  in_mode mode.Held u rest n h = h

either : (b : Bool) (xs ys : List Op) → Each FitsLine xs → Each FitsLine ys → Each FitsLine (if b then xs else ys)
either true xs ys h k = h
either false xs ys h k = k

of_pins : (p : ℕ) (pins : List (Option Setup)) → p + length pins ≤ 144 → Each IsGiven pins → Each FitsLine (gpio_ops p pins)
of_pins p [] few h = tt
of_pins p (None ∷ pins) few h = of_pins (suc p) pins (omega (arith, few)) h.1
of_pins p (Some u ∷ pins) few h =
    let rest : Each FitsLine (gpio_ops (suc p) pins) = of_pins (suc p) pins (omega (arith, few)) h.1 in
    either (is_left p u.mode) (gpio_ops (suc p) pins) (ops_in u.mode p u (gpio_ops (suc p) pins)) rest (in_mode p (omega (arith, few)) u.mode u (gpio_ops (suc p) pins) h.0 rest)

given : (pins : List (Option Setup)) → ((p : ℕ) (u : Setup) → ◌≡◌ {A = Option Setup} (get_or pins p None) (Some u) → IsNarrow u.mode) → Each IsGiven pins
given [] h = tt
given (None ∷ pins) h = (tt, given pins (λ p u e. h (suc p) u e))
given (Some u ∷ pins) h = (h 0 u refl, given pins (λ p u e. h (suc p) u e))

-- ---- the enables of the ports
ports_if : (b : Bool) (p x : ℕ) → p < 144 → x < 512 → (if b then x else bit_or (2 ^ (p / 16)) x) < 512
ports_if true p x l h = h
ports_if false p x l h = or_lt 9 (2 ^ (p / 16)) x (pow_below (p / 16) 9 (omega arith)) h

ports_small : (p : ℕ) (pins : List (Option Setup)) → p + length pins ≤ 144 → ports p pins < 512
ports_small p [] l = omega arith
ports_small p (None ∷ pins) l = ports_small (suc p) pins (omega arith)
ports_small p (Some u ∷ pins) l = ports_if (is_left p u.mode) p (ports (suc p) pins) (omega arith) (ports_small (suc p) pins (omega arith))

of_section : (pins : List (Option Setup)) → AreWhole pins → Each FitsLine (gpio_section pins)
of_section pins h =
    let few : length pins ≤ 144 = h.few in
    let enables : FitsLine (op.Modify reg.Ahb1enr 0 (ports 0 pins)) = (tt, omega arith, omega (arith, ports_small 0 pins (omega (arith, few)))) in
    either (ports 0 pins == 0) [] (op.Modify reg.Ahb1enr 0 (ports 0 pins) ∷ op.Read reg.Ahb1enr ∷ gpio_ops 0 pins) tt
    (enables, (tt, of_pins 0 pins (omega (arith, few)) (given pins h.setup)))

-- ---- the accesses of the clocks
of_scale : (c : Codes) (rest : List Op) → IsSmall c → Each FitsLine rest → Each FitsLine (scale_ops c rest)
of_scale c rest s h = either (c.scale == 1) rest (op.Modify reg.PwrCr c.vos_clear c.vos_set ∷ rest) h ((tt, omega (arith, s.vos_clear), omega (arith, s.vos_set)), h)

of_vos : (c : Codes) (rest : List Op) → IsSmall c → Each FitsLine rest → Each FitsLine (vos_ops c rest)
of_vos c rest s h =
    either (c.step == 1) rest (op.Modify reg.Apb1enr 0 0x10000000 ∷ op.Read reg.Apb1enr ∷ scale_ops c rest) h
    ((tt, omega arith, omega arith), (tt, of_scale c rest s h))

of_over : (over : Bool) (rest : List Op) → Each FitsLine rest → Each FitsLine (over_ops over rest)
of_over true rest h = (
  (tt, omega arith, omega arith),
  ((tt, omega arith, omega arith, omega arith, omega arith), ((tt, omega arith, omega arith), ((tt, omega arith, omega arith, omega arith, omega arith), h))),
)
of_over false rest h = h

of_hse : (o : Oscillator) (rest : List Op) → Each FitsLine rest → Each FitsLine (hse_ops o rest)
of_hse oscillator.Off rest h = h
of_hse oscillator.Crystal rest h = ((tt, omega arith, omega arith), ((tt, omega arith, omega arith, omega arith, omega arith), h))
of_hse oscillator.Bypass rest h = ((tt, omega arith, omega arith), ((tt, omega arith, omega arith), ((tt, omega arith, omega arith, omega arith, omega arith), h)))

of_pll : (c : Codes) (b : Bool) (rest : List Op) → IsSmall c → c.pll ≡ b → Each FitsLine rest → Each FitsLine (pll_ops c rest)
of_pll c true rest s e h =
    rw e ((tt, omega (arith, s.q, s.psrc, s.pcode, s.n, s.m)), ((tt, omega arith, omega arith), ((tt, omega arith, omega arith, omega arith, omega arith), h)))
of_pll c false rest s e h = rw e h

of_switch : (src : ℕ) (b : Bool) (rest : List Op) → src < 3 → (src == 0) ≡ b → Each FitsLine rest → Each FitsLine (switch_ops src rest)
of_switch src true rest l e h = rw e h
of_switch src false rest l e h = rw e ((tt, omega arith, omega (arith, l)), ((tt, omega arith, omega (arith, l), omega arith, omega arith), h))

acr_small : (prefetch : Bool) (wait : ℕ) → wait < 8 → acr_word prefetch wait < 2 ^ 32
acr_small true wait l = omega (arith, l)
acr_small false wait l = omega (arith, l)

of_late : (prefetch : Bool) (c : Codes) (rest : List Op) → IsSmall c → Each FitsLine rest → Each FitsLine (late_ops prefetch c rest)
of_late prefetch c rest s h = (
  (tt, acr_small prefetch c.wait s.wait),
  (
    (tt, omega arith, omega (arith, s.wait), omega arith, omega arith),
    ((tt, omega arith, omega (arith, s.hcode, s.code1, s.code2)), of_switch c.src (c.src == 0) rest s.src refl h),
  ),
)

pub writes_fit : (s : Setting) → IsSettable s → Each FitsLine (writes_of s)
writes_fit s h =
    let c : Codes = codes_of s.version s.facts s.clock s.wait in
    let are : IsSmall c = small s h in
    let pins = gpio_section s.pins in
    let late = late_ops s.prefetch c pins in
    let over = over_ops c.over late in
    let pll = pll_ops c over in
    of_vos c (hse_ops c.oscillator pll) are (of_hse c.oscillator pll (of_pll c c.pll over are refl (of_over c.over late (of_late s.prefetch c pins are (of_section s.pins h.pins)))))
