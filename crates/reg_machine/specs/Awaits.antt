-- The awaits that are lawful: which register, mask, wanted word and name go together, and while what.
-- Every other one is forbidden.
use Rattle.std.specs.Prelude.{ℕ, ◌*◌, ◌%◌, Bool, false, ◌&&◌, ◌==◌}
use Rattle.reg_map.specs.Fields.{bit_of}
use Rattle.reg_map.specs.declared.register.Reg.{Reg}
use Rattle.reg_map.specs.declared.register.Reg.TheVariants as reg
use Rattle.reg_machine.specs.declared.op.Timeout.{Timeout}
use Rattle.reg_machine.specs.declared.op.Timeout.TheVariants as timeout
use Rattle.reg_machine.specs.declared.state.State.{State}

-- HSERDY while HSEON is set, or PLLRDY while PLLON is set
abbrev pub awaits_ready : State → Timeout → ℕ → ℕ → Bool
awaits_ready s timeout.Hse mask want = (mask == 0x00020000) && ((want == 0x00020000) && bit_of 16 s.cr)
awaits_ready s timeout.Pll mask want = (mask == 0x02000000) && ((want == 0x02000000) && bit_of 24 s.cr)
awaits_ready s timeout.Latency mask want = false
awaits_ready s timeout.Switch mask want = false
awaits_ready s timeout.Over mask want = false
awaits_ready s timeout.OverSwitch mask want = false

-- in SWS the source that SW asks for
abbrev pub awaits_switch : State → Timeout → ℕ → ℕ → Bool
awaits_switch s timeout.Hse mask want = false
awaits_switch s timeout.Pll mask want = false
awaits_switch s timeout.Latency mask want = false
awaits_switch s timeout.Switch mask want = (mask == 12) && (want == 4 * (s.cfgr % 4))
awaits_switch s timeout.Over mask want = false
awaits_switch s timeout.OverSwitch mask want = false

-- the latency that was asked for, once FLASH_ACR was written
abbrev pub awaits_latency : State → Timeout → ℕ → ℕ → Bool
awaits_latency s timeout.Hse mask want = false
awaits_latency s timeout.Pll mask want = false
awaits_latency s timeout.Latency mask want = s.acr_written && ((mask == 7) && (want == s.acr % 8))
awaits_latency s timeout.Switch mask want = false
awaits_latency s timeout.Over mask want = false
awaits_latency s timeout.OverSwitch mask want = false

-- ODRDY while ODEN is set, or ODSWRDY while ODSWEN is set
abbrev pub awaits_over : State → Timeout → ℕ → ℕ → Bool
awaits_over s timeout.Hse mask want = false
awaits_over s timeout.Pll mask want = false
awaits_over s timeout.Latency mask want = false
awaits_over s timeout.Switch mask want = false
awaits_over s timeout.Over mask want = (mask == 0x00010000) && ((want == 0x00010000) && bit_of 16 s.pwr_cr)
awaits_over s timeout.OverSwitch mask want = (mask == 0x00020000) && ((want == 0x00020000) && bit_of 17 s.pwr_cr)

abbrev pub is_lawful : State → Reg → ℕ → ℕ → Timeout → Bool
is_lawful s reg.Cr mask want name = awaits_ready s name mask want
is_lawful s reg.Pllcfgr mask want name = false
is_lawful s reg.Cfgr mask want name = awaits_switch s name mask want
is_lawful s reg.Ahb1enr mask want name = false
is_lawful s reg.Apb1enr mask want name = false
is_lawful s reg.Acr mask want name = awaits_latency s name mask want
is_lawful s reg.PwrCr mask want name = false
is_lawful s reg.PwrCsr mask want name = awaits_over s name mask want
is_lawful s (reg.Gpio port k) mask want name = false
