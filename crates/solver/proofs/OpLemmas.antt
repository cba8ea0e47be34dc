-- The accesses of a setting are to registers that there are.
use Rattle.std.proofs.Common.{◌≡◌, ℕ, zero, suc, ◌+◌, ◌/◌, ◌<◌, ◌≤◌, ◌==◌, Bool, true, false, List, [], ◌∷◌, length, Option, Some, None, map, refl, ap, arith}
use Rattle.std.specs.Prelude.{if◌then◌else◌}
use Rattle.std.proofs.Math.Nat.{div-lt_iff_lt-mul}
use Rattle.res_base.specs.Lists.{Each}
use Rattle.res_model.specs.declared.table.Mode.{Mode}
use Rattle.res_model.specs.declared.table.Mode.TheVariants as mode
use Rattle.reg_map.specs.declared.register.Reg.TheVariants as reg
use Rattle.reg_machine.specs.Words.{IsOp}
use Rattle.reg_machine.specs.declared.op.Op.{Op}
use Rattle.reg_machine.specs.declared.op.Op.TheVariants as op
use Rattle.choice_setup.specs.SetUp.{places, setting_of, setup_at, setups_of}
use Rattle.problem.specs.ClockValues.{numbers_from}
use Rattle.problem.specs.Meets.{places_of}
use Rattle.problem.specs.declared.parts.ProblemParts.{ProblemParts}
use Rattle.res_model.specs.Placement.{uses_at}
use Rattle.res_model.specs.declared.project.Signal.{Signal}
use Rattle.res_model.specs.declared.table.PinUse.{PinUse}
use Rattle.res_model.specs.declared.table.TableParts.{TableParts}
use Rattle.init_gen.specs.Codes.{codes_of}
use Rattle.init_gen.specs.PinWrites.{gpio_ops, gpio_section, is_left, ops_in, ports}
use Rattle.init_gen.specs.Writes.{hse_ops, late_ops, over_ops, pll_ops, scale_ops, switch_ops, vos_ops, writes_of}
use Rattle.init_gen.specs.declared.setting.Codes.{Codes}
use Rattle.init_gen.specs.declared.setting.Oscillator.{Oscillator}
use Rattle.init_gen.specs.declared.setting.Oscillator.TheVariants as oscillator
use Rattle.init_gen.specs.declared.setting.Setting.{Setting}
use Rattle.init_gen.specs.declared.setting.Setup.{Setup}

port_of : (p : ℕ) → p < 144 → p / 16 < 9
port_of p l = (div-lt_iff_lt-mul {k = 16} {x = p} {y = 9} (omega arith)).1 (omega (arith, l))

in_mode : (m : Mode) (p : ℕ) (u : Setup) (rest : List Op) → p / 16 < 9 → Each IsOp rest → Each IsOp (ops_in m p u rest)
in_mode (mode.Alt f) p u rest l h = (l, (l, (l, (l, (l, h)))))
in_mode mode.Input p u rest l h = (l, (l, h))
in_mode mode.Output p u rest l h = (l, (l, (l, (l, h))))
in_mode mode.Analog p u rest l h = (l, (l, h))
in_mode mode.Exti p u rest l h = (l, (l, h))
in_mode mode.Osc p u rest l h = h
in_mode mode.Held p u rest l h = h

either : (b : Bool) (xs ys : List Op) → Each IsOp xs → Each IsOp ys → Each IsOp (if b then xs else ys)
either true xs ys h k = h
either false xs ys h k = k

of_pins : (p : ℕ) (pins : List (Option Setup)) → p + length pins ≤ 144 → Each IsOp (gpio_ops p pins)
of_pins p [] few = tt
of_pins p (None ∷ pins) few = of_pins (suc p) pins (omega (arith, few))
of_pins p (Some u ∷ pins) few =
    let rest : Each IsOp (gpio_ops (suc p) pins) = of_pins (suc p) pins (omega (arith, few)) in
    either (is_left p u.mode) (gpio_ops (suc p) pins) (ops_in u.mode p u (gpio_ops (suc p) pins)) rest (in_mode u.mode p u (gpio_ops (suc p) pins) (port_of p (omega (arith, few))) rest)

of_section : (pins : List (Option Setup)) → length pins ≤ 144 → Each IsOp (gpio_section pins)
of_section pins few = either (ports 0 pins == 0) [] (op.Modify reg.Ahb1enr 0 (ports 0 pins) ∷ op.Read reg.Ahb1enr ∷ gpio_ops 0 pins) tt (tt, (tt, of_pins 0 pins (omega (arith, few))))

of_scale : (c : Codes) (rest : List Op) → Each IsOp rest → Each IsOp (scale_ops c rest)
of_scale c rest h = either (c.scale == 1) rest (op.Modify reg.PwrCr c.vos_clear c.vos_set ∷ rest) h (tt, h)

of_vos : (c : Codes) (rest : List Op) → Each IsOp rest → Each IsOp (vos_ops c rest)
of_vos c rest h = either (c.step == 1) rest (op.Modify reg.Apb1enr 0 0x10000000 ∷ op.Read reg.Apb1enr ∷ scale_ops c rest) h (tt, (tt, of_scale c rest h))

of_over : (over : Bool) (rest : List Op) → Each IsOp rest → Each IsOp (over_ops over rest)
of_over true rest h = (tt, (tt, (tt, (tt, h))))
of_over false rest h = h

of_hse : (o : Oscillator) (rest : List Op) → Each IsOp rest → Each IsOp (hse_ops o rest)
of_hse oscillator.Off rest h = h
of_hse oscillator.Crystal rest h = (tt, (tt, h))
of_hse oscillator.Bypass rest h = (tt, (tt, (tt, h)))

of_pll : (c : Codes) (b : Bool) (rest : List Op) → c.pll ≡ b → Each IsOp rest → Each IsOp (pll_ops c rest)
of_pll c true rest e h = rw (e) (tt, (tt, (tt, h)))
of_pll c false rest e h = rw (e) h

of_switch : (src : ℕ) (b : Bool) (rest : List Op) → (src == 0) ≡ b → Each IsOp rest → Each IsOp (switch_ops src rest)
of_switch src true rest e h = rw (e) h
of_switch src false rest e h = rw (e) (tt, (tt, h))

pub are_ops : (s : Setting) → length s.pins ≤ 144 → Each IsOp (writes_of s)
are_ops s few =
    let c : Codes = codes_of s.version s.facts s.clock s.wait in
    let pins : Each IsOp (gpio_section s.pins) = of_section s.pins few in
    let late : Each IsOp (late_ops s.prefetch c (gpio_section s.pins)) = (tt, (tt, (tt, of_switch c.src (c.src == 0) (gpio_section s.pins) refl pins))) in
    let over = over_ops c.over (late_ops s.prefetch c (gpio_section s.pins)) in
    of_vos c (hse_ops c.oscillator (pll_ops c over)) (of_hse c.oscillator (pll_ops c over) (of_pll c c.pll over refl (of_over c.over (late_ops s.prefetch c (gpio_section s.pins)) late)))

-- a setting has a place for each of the pins of nine ports
numbers_few : (n first : ℕ) (t : TableParts) (ss : List Signal) (us : List PinUse) → length (map (setup_at t ss us) (numbers_from n first)) ≡ n
numbers_few zero first t ss us = refl
numbers_few (suc n) first t ss us = ap suc (numbers_few n (first + 1) t ss us)

pub few_setups : (p : ProblemParts) (at : List ℕ) → length (setting_of p at).pins ≤ 144
unfolding setting_of setups_of places
few_setups p at = omega (arith, numbers_few 144 0 p.tables p.signals (uses_at p.uses (places_of p at)))
