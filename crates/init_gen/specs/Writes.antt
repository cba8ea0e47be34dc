-- The accesses that bring a chip from reset to a setting, in their order, each section in front of the rest.
-- 'Set' is a modify that clears nothing.
use Rattle.std.specs.Prelude.{ℕ, ◌+◌, ◌*◌, ◌^◌, List, ◌∷◌, Bool, if◌then◌else◌, ◌==◌, map}
use Rattle.reg_map.specs.declared.register.Reg.TheVariants as reg
use Rattle.reg_machine.specs.declared.op.Op.{Op}
use Rattle.reg_machine.specs.declared.op.Op.TheVariants as op
use Rattle.reg_machine.specs.declared.op.Timeout.TheVariants as timeout
use Rattle.reg_machine.specs.declared.state.Target.{Target}
use Rattle.init_gen.specs.Codes.{codes_of}
use Rattle.init_gen.specs.PinWrites.{gpio_section, wanted}
use Rattle.init_gen.specs.declared.setting.Codes.{Codes}
use Rattle.init_gen.specs.declared.setting.Oscillator.{Oscillator}
use Rattle.init_gen.specs.declared.setting.Oscillator.TheVariants as oscillator
use Rattle.init_gen.specs.declared.setting.Setting.{Setting}

-- ---- words

-- RCC_PLLCFGR: Q, SRC, P, N and M, and what stands in the reserved bits at reset
abbrev pub pll_word : Codes → ℕ
pll_word c = 0x20000000 + c.q * 2 ^ 24 + c.psrc * 2 ^ 22 + c.pcode * 2 ^ 16 + c.n * 2 ^ 6 + c.m

-- RCC_CFGR: HPRE, PPRE1 and PPRE2
abbrev pub code_word : Codes → ℕ
code_word c = c.hcode * 2 ^ 4 + c.code1 * 2 ^ 10 + c.code2 * 2 ^ 13

-- FLASH_ACR: both caches, prefetch where it is allowed, and the wait states
abbrev pub acr_word : Bool → ℕ → ℕ
acr_word prefetch wait = 1536 + (if prefetch then 256 else 0) + wait

-- ---- sections

-- another scale than scale 1, which is that of reset: VOS
abbrev pub scale_ops : Codes → List Op → List Op
scale_ops c rest = if c.scale == 1 then rest else op.Modify reg.PwrCr c.vos_clear c.vos_set ∷ rest

-- another power step than scale 1 alone: PWREN set and read back, and the scale
abbrev pub vos_ops : Codes → List Op → List Op
vos_ops c rest = if c.step == 1 then rest else op.Modify reg.Apb1enr 0 0x10000000 ∷ op.Read reg.Apb1enr ∷ scale_ops c rest

-- the HSE: HSEBYP set where it bypasses the oscillator, HSEON set, and HSERDY awaited
abbrev pub hse_ops : Oscillator → List Op → List Op
hse_ops oscillator.Off rest = rest
hse_ops oscillator.Crystal rest = op.Modify reg.Cr 0 0x00010000 ∷ op.Await reg.Cr 0x00020000 0x00020000 100000 timeout.Hse ∷ rest
hse_ops oscillator.Bypass rest = op.Modify reg.Cr 0 0x00040000 ∷ op.Modify reg.Cr 0 0x00010000 ∷ op.Await reg.Cr 0x00020000 0x00020000 100000 timeout.Hse ∷ rest

-- the PLL: its word, PLLON set, and PLLRDY awaited
abbrev pub pll_ops : Codes → List Op → List Op
pll_ops c rest = if c.pll then op.Write reg.Pllcfgr (pll_word c) ∷ op.Modify reg.Cr 0 0x01000000 ∷ op.Await reg.Cr 0x02000000 0x02000000 10000 timeout.Pll ∷ rest else rest

-- over-drive, beside the PLL that runs and is not yet in effect: ODEN set and ODRDY awaited, and then ODSWEN and ODSWRDY
abbrev pub over_ops : Bool → List Op → List Op
over_ops over rest =
    if over
    then op.Modify reg.PwrCr 0 0x00010000
    ∷ op.Await reg.PwrCsr 0x00010000 0x00010000 10000 timeout.Over
    ∷ op.Modify reg.PwrCr 0 0x00020000
    ∷ op.Await reg.PwrCsr 0x00020000 0x00020000 10000 timeout.OverSwitch
    ∷ rest
    else rest

-- the switch, where SYSCLK is not from HSI: SW, and SWS awaited
abbrev pub switch_ops : ℕ → List Op → List Op
switch_ops src rest = if src == 0 then rest else op.Modify reg.Cfgr 0x00000003 src ∷ op.Await reg.Cfgr 0x0000000C (4 * src) 100000 timeout.Switch ∷ rest

-- the latency, written and awaited, the dividers, and the switch
abbrev pub late_ops : Bool → Codes → List Op → List Op
late_ops prefetch c rest =
    op.Write reg.Acr (acr_word prefetch c.wait)
    ∷ op.Await reg.Acr 7 c.wait 1000 timeout.Latency
    ∷ op.Modify reg.Cfgr 0x0000FCF0 (code_word c)
    ∷ switch_ops c.src rest

-- ---- the whole

abbrev pub writes_of : Setting → List Op
writes_of s =
    let c = codes_of s.version s.facts s.clock s.wait in
    vos_ops c (hse_ops c.oscillator (pll_ops c (over_ops c.over (late_ops s.prefetch c (gpio_section s.pins)))))

-- what the machine is to have at the end
abbrev pub target_of : Setting → Target
target_of s = record { facts = s.facts; pins = map wanted s.pins }
