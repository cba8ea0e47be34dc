-- The rules that forbid a value in a register, each by what it forbids. The state is that before the write.
-- They are this project's own, after RM0090.
use Rattle.std.specs.Prelude.{ℕ, ◌/◌, ◌%◌, ◌^◌, ◌-◌, Bool, ◌&&◌, ◌||◌, not, if◌then◌else◌, ◌==◌, nat_lt, bit_and, bit_or, Option, Some, None}
use Rattle.reg_map.specs.Fields.{bit_of}
use Rattle.reg_map.specs.declared.register.Reg.{Reg}
use Rattle.reg_map.specs.declared.register.Reg.TheVariants as reg
use Rattle.reg_machine.specs.declared.op.Rule.{Rule}
use Rattle.reg_machine.specs.declared.op.Rule.TheVariants as rule
use Rattle.reg_machine.specs.declared.state.State.{State}
use Rattle.reg_machine.specs.Power.{vos_mask, pwr_others, scale_of}
use Rattle.reg_machine.specs.Words.{is_ready, pll_source, in_use, is_whole}

-- the number by which a rule is printed; of several that forbid a step, the one with the least is told
abbrev pub number_of : Rule → ℕ
number_of rule.HsiOffInUse = 1
number_of rule.BypassChangedWithHseOn = 2
number_of rule.HseOnUnlikeTarget = 3
number_of rule.HseOffInUse = 4
number_of rule.PllOnUnfit = 5
number_of rule.PllOffInUseOrOtherBit = 6
number_of rule.PllcfgrWithPllOn = 7
number_of rule.PllcfgrOutOfRange = 8
number_of rule.SwitchToUnready = 9
number_of rule.CfgrOtherBit = 10
number_of rule.PortDisabledOrOtherBit = 11
number_of rule.PowerDisabledOrOtherBit = 12
number_of rule.PwrCrBeforeEnable = 13
number_of rule.ScaleWithPllOnOrOtherBit = 14
number_of rule.AcrModifiedOrOtherBit = 15
number_of rule.PrefetchAtLowSupply = 16
number_of rule.GpioBeforeEnable = 17
number_of rule.AwaitUnlawful = 18
number_of rule.OverOnUnfit = 19
number_of rule.OverSwitchUnfit = 20
number_of rule.PwrCsrWritten = 21

abbrev pub differ : Bool → Bool → Bool
differ a b = if a then not b else b

-- bit k goes from 0 to 1, and from 1 to 0
abbrev pub sets : ℕ → ℕ → ℕ → Bool
sets k old value = not (bit_of k old) && bit_of k value

abbrev pub clears : ℕ → ℕ → ℕ → Bool
clears k old value = bit_of k old && not (bit_of k value)

-- a bit under the mask changes
abbrev pub changes : ℕ → ℕ → ℕ → Bool
changes mask old value = not (bit_and old mask == bit_and value mask)

-- ---- RCC_CR

-- HSION cleared while HSI is in use
abbrev pub hsi_off_in_use : State → ℕ → Bool
hsi_off_in_use s value = clears 0 s.cr value && in_use s 0

-- HSEBYP changed while HSEON is set
abbrev pub bypass_changed_with_hse_on : State → ℕ → Bool
bypass_changed_with_hse_on s value = bit_of 16 s.cr && differ (bit_of 18 s.cr) (bit_of 18 value)

-- HSEON set where the target has no input, or HSEBYP after the write is not as the target has it
abbrev pub hse_on_unlike_target : State → ℕ → Bool
hse_on_unlike_target s value = sets 16 s.cr value && (not s.osc_in || differ (bit_of 18 value) s.bypass)

-- HSEON cleared while HSE is in use
abbrev pub hse_off_in_use : State → ℕ → Bool
hse_off_in_use s value = clears 16 s.cr value && in_use s 1

-- PLLON set while the source that SRC names is not ready, or M, N or Q is none that the PLL takes
abbrev pub pll_on_unfit : State → ℕ → Bool
pll_on_unfit s value = sets 24 s.cr value && (not (is_ready s (pll_source s.pllcfgr)) || not (is_whole s.pllcfgr))

-- the PLL is in effect or asked for
abbrev pub pll_in_effect : State → Bool
pll_in_effect s = (s.source == 2) || (s.cfgr % 4 == 2)

-- PLLON cleared while the PLL is in effect or asked for, or ODEN is set, or a bit but HSION, HSIRDY, HSEON, HSERDY, HSEBYP,
-- PLLON and PLLRDY changed
abbrev pub pll_off_in_use_or_other_bit : State → ℕ → Bool
pll_off_in_use_or_other_bit s value = (clears 24 s.cr value && (pll_in_effect s || bit_of 16 s.pwr_cr)) || changes 0xFCF8FFFC s.cr value

-- ---- RCC_PLLCFGR

-- written while PLLON is set
abbrev pub pllcfgr_with_pll_on : State → Bool
pllcfgr_with_pll_on s = bit_of 24 s.cr

-- M, N or Q that the PLL does not take
abbrev pub pllcfgr_out_of_range : ℕ → Bool
pllcfgr_out_of_range value = not (is_whole value)

-- ---- RCC_CFGR

-- SW is 3, or asks for a source that is not ready
abbrev pub switch_to_unready : State → ℕ → Bool
switch_to_unready s value = not (is_ready s (value % 4))

-- a bit outside SW, SWS, HPRE, PPRE1 and PPRE2 changed
abbrev pub cfgr_other_bit : State → ℕ → Bool
cfgr_other_bit s value = changes 0xFFFF0300 s.cfgr value

-- ---- the enables

-- RCC_AHB1ENR: the enable of a port cleared, or another bit changed
abbrev pub port_disabled_or_other_bit : State → ℕ → Bool
port_disabled_or_other_bit s value = not ((s.ahb1enr / 512 == value / 512) && (bit_or s.ahb1enr value == value))

-- RCC_APB1ENR: PWREN cleared, or another bit changed
abbrev pub power_disabled_or_other_bit : State → ℕ → Bool
power_disabled_or_other_bit s value = clears 28 s.apb1enr value || changes 0xEFFFFFFF s.apb1enr value

-- ---- PWR_CR

-- written while PWREN is 0, or was not read since it was set
abbrev pub pwr_cr_before_enable : State → Bool
pwr_cr_before_enable s = not (bit_of 28 s.apb1enr && bit_of 28 s.apb_read)

-- VOS changed while PLLON is set, or naming no scale after the write, or a bit changed that is none of its fields
abbrev pub scale_with_pll_on_or_other_bit : State → ℕ → Bool
scale_with_pll_on_or_other_bit s value =
    (bit_of 24 s.cr && changes (vos_mask s.version) s.pwr_cr value) || (nat_lt 3 (scale_of s.version value) || changes (pwr_others s.version) s.pwr_cr value)

-- ODEN set while PLLON is 0, or the PLL is in effect or asked for, or VOS names scale 3; or ODEN cleared
abbrev pub over_on_unfit : State → ℕ → Bool
over_on_unfit s value = (sets 16 s.pwr_cr value && (not (bit_of 24 s.cr) || (pll_in_effect s || (scale_of s.version s.pwr_cr == 3)))) || clears 16 s.pwr_cr value

-- ODSWEN set while over-drive is not ready, or the PLL is in effect or asked for; or ODSWEN cleared
abbrev pub over_switch_unfit : State → ℕ → Bool
over_switch_unfit s value = (sets 17 s.pwr_cr value && (not s.over_ready || pll_in_effect s)) || clears 17 s.pwr_cr value

-- ---- FLASH_ACR

-- a bit outside LATENCY, PRFTEN, ICEN and DCEN set
abbrev pub acr_other_bit : State → ℕ → Bool
acr_other_bit s value = not (bit_and (bit_and value 0xFFFFF8F8) (2 ^ 32 - 1 - s.acr) == 0)

-- PRFTEN set where the supply allows no prefetch
abbrev pub prefetch_at_low_supply : State → ℕ → Bool
prefetch_at_low_supply s value = sets 8 s.acr value && not s.prefetch

-- ---- GPIO

-- written while its port's enable is 0, or was not read since it was set
abbrev pub gpio_before_enable : State → ℕ → Bool
gpio_before_enable s port = not (bit_of port s.ahb1enr && bit_of port s.ahb_read)

-- ---- the least rule that forbids a value in a register

abbrev pub bars_cr : State → ℕ → Option Rule
bars_cr s value =
    if hsi_off_in_use s value then Some rule.HsiOffInUse
    else (if bypass_changed_with_hse_on s value then Some rule.BypassChangedWithHseOn
    else (if hse_on_unlike_target s value then Some rule.HseOnUnlikeTarget
    else (if hse_off_in_use s value then Some rule.HseOffInUse
    else (if pll_on_unfit s value then Some rule.PllOnUnfit
    else (if pll_off_in_use_or_other_bit s value then Some rule.PllOffInUseOrOtherBit
    else None)))))

abbrev pub bars_pwr_cr : State → ℕ → Option Rule
bars_pwr_cr s value =
    if pwr_cr_before_enable s then Some rule.PwrCrBeforeEnable
    else (if scale_with_pll_on_or_other_bit s value then Some rule.ScaleWithPllOnOrOtherBit
    else (if over_on_unfit s value then Some rule.OverOnUnfit
    else (if over_switch_unfit s value then Some rule.OverSwitchUnfit
    else None)))

-- the lower of two rules
abbrev pub either : Rule → Bool → Rule → Bool → Option Rule
either low by_low high by_high = if by_low then Some low else (if by_high then Some high else None)

abbrev pub bars : State → Reg → ℕ → Option Rule
bars s reg.Cr value = bars_cr s value
bars s reg.Pllcfgr value = either rule.PllcfgrWithPllOn (pllcfgr_with_pll_on s) rule.PllcfgrOutOfRange (pllcfgr_out_of_range value)
bars s reg.Cfgr value = either rule.SwitchToUnready (switch_to_unready s value) rule.CfgrOtherBit (cfgr_other_bit s value)
bars s reg.Ahb1enr value = if port_disabled_or_other_bit s value then Some rule.PortDisabledOrOtherBit else None
bars s reg.Apb1enr value = if power_disabled_or_other_bit s value then Some rule.PowerDisabledOrOtherBit else None
bars s reg.Acr value = either rule.AcrModifiedOrOtherBit (acr_other_bit s value) rule.PrefetchAtLowSupply (prefetch_at_low_supply s value)
bars s reg.PwrCr value = bars_pwr_cr s value
bars s reg.PwrCsr value = Some rule.PwrCsrWritten
bars s (reg.Gpio port k) value = if gpio_before_enable s port then Some rule.GpioBeforeEnable else None
