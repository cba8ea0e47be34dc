-- One step of the machine: the pending flags that an answer names come, and then the op.
use Rattle.std.specs.Prelude.{ℕ, ◌+◌, ◌*◌, ◌-◌, ◌/◌, ◌%◌, ◌^◌, Bool, true, false, ◌&&◌, ◌||◌, if◌then◌else◌, ◌==◌, nat_lt, bit_and, bit_or, set}
use Rattle.std.specs.Option.{option_map_or}
use Rattle.reg_map.specs.Fields.{bit_of}
use Rattle.reg_map.specs.declared.register.Reg.{Reg}
use Rattle.reg_map.specs.declared.register.Reg.TheVariants as reg
use Rattle.reg_machine.specs.declared.op.Timeout.{Timeout}
use Rattle.reg_machine.specs.declared.op.Op.{Op}
use Rattle.reg_machine.specs.declared.op.Op.TheVariants as op
use Rattle.reg_machine.specs.declared.op.Answer.{Answer}
use Rattle.reg_machine.specs.declared.op.Rule.TheVariants as rule
use Rattle.reg_machine.specs.declared.op.Stepped.{Stepped}
use Rattle.reg_machine.specs.declared.op.Stepped.TheVariants as stepped
use Rattle.reg_machine.specs.declared.state.State.{State}
use Rattle.reg_machine.specs.Words.{slot, word_of, pll_source}
use Rattle.reg_machine.specs.Rules.{bars}
use Rattle.reg_machine.specs.Awaits.{is_lawful}

-- the pending flags that an answer names come: HSE, then the PLL, the latency, the switch, over-drive and its switch
abbrev pub hse_after : Answer → State → Bool
hse_after a s = s.hse_ready || (a.hse && bit_of 16 s.cr)

abbrev pub pll_after : Answer → State → Bool
pll_after a s = s.pll_ready || (a.pll && (bit_of 24 s.cr && (if pll_source s.pllcfgr == 1 then hse_after a s else true)))

abbrev pub over_after : Answer → State → Bool
over_after a s = s.over_ready || (a.over && (bit_of 16 s.pwr_cr && bit_of 24 s.cr))

abbrev pub switched_after : Answer → State → Bool
switched_after a s = s.over_switched || (a.over_switch && (bit_of 17 s.pwr_cr && over_after a s))

abbrev pub flags : Answer → State → State
flags a s =
    record s {
      hse_ready = hse_after a s;
      pll_ready = pll_after a s;
      latency = if a.latency then s.acr % 8 else s.latency;
      source = if a.switch then s.cfgr % 4 else s.source;
      over_ready = over_after a s;
      over_switched = switched_after a s;
    }

-- the value that a modify writes
abbrev pub modified : State → Reg → ℕ → ℕ → ℕ
modified s r clear set = bit_or (bit_and (word_of s r) (2 ^ 32 - 1 - clear)) set

-- a word stored in a register. Bits that read as flags keep nothing, and an enable that is cleared clears its flag
abbrev pub stored : Reg → ℕ → State → State
stored reg.Cr value s =
    record s { cr = bit_and value 4261281789; hse_ready = s.hse_ready && bit_of 16 value; pll_ready = s.pll_ready && bit_of 24 value }
stored reg.Pllcfgr value s = record s { pllcfgr = value }
stored reg.Cfgr value s = record s { cfgr = value % 4 + 16 * (value / 16) }
stored reg.Acr value s = record s { acr = value; acr_written = true }
stored reg.Ahb1enr value s = record s { ahb1enr = value; ahb_read = bit_and s.ahb_read s.ahb1enr }
stored reg.Apb1enr value s = record s { apb1enr = value; apb_read = bit_and s.apb_read s.apb1enr }
stored reg.PwrCr value s = record s { pwr_cr = value }
stored reg.PwrCsr value s = s
stored (reg.Gpio port k) value s = record s { gpio = set s.gpio (slot port k) value }

-- what a read leaves: the enable bits that are set are now read
abbrev pub noted : Reg → State → State
noted reg.Cr s = s
noted reg.Pllcfgr s = s
noted reg.Cfgr s = s
noted reg.Acr s = s
noted reg.Ahb1enr s = record s { ahb_read = s.ahb1enr }
noted reg.Apb1enr s = record s { apb_read = s.apb1enr }
noted reg.PwrCr s = s
noted reg.PwrCsr s = s
noted (reg.Gpio port k) s = s

-- an op is done: the next await begins at no polls
abbrev pub went : State → Stepped × State
went s = (stepped.Went, record s { polls = 0 })

-- a write, or the least rule that forbids it
abbrev pub store : State → Reg → ℕ → Stepped × State
store s r value = option_map_or (λ broken. (stepped.Forbidden broken, s)) (bars s r value) (went (stored r value s))

-- an await that reads once
abbrev pub poll : State → Reg → ℕ → ℕ → ℕ → Timeout → Stepped × State
poll s r mask want polls name =
    if bit_and (word_of s r) mask == want then went s
    else (if nat_lt (s.polls + 1) polls then (stepped.Waiting, record s { polls = s.polls + 1 }) else (stepped.TimedOut name, record s { polls = 0 }))

abbrev pub is_acr : Reg → Bool
is_acr reg.Cr = false
is_acr reg.Pllcfgr = false
is_acr reg.Cfgr = false
is_acr reg.Ahb1enr = false
is_acr reg.Apb1enr = false
is_acr reg.Acr = true
is_acr reg.PwrCr = false
is_acr reg.PwrCsr = false
is_acr (reg.Gpio port k) = false

-- FLASH_ACR takes no modify, and an await has a poll and is lawful
abbrev pub act : State → Op → Stepped × State
act s (op.Write r value) = store s r value
act s (op.Modify r clear set) = if is_acr r then (stepped.Forbidden rule.AcrModifiedOrOtherBit, s) else store s r (modified s r clear set)
act s (op.Read r) = went (noted r s)
act s (op.Await r mask want polls name) = if nat_lt 0 polls && is_lawful s r mask want name then poll s r mask want polls name else (stepped.Forbidden rule.AwaitUnlawful, s)

abbrev pub step_of : State → Op → Answer → Stepped × State
step_of s op a = act (flags a s) op
