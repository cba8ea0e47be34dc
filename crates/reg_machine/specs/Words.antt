-- The words of a state: how they read, and which sources are ready or in use (RM0090, RCC).
use Rattle.std.specs.Prelude.{ℕ, ◌+◌, ◌*◌, ◌-◌, ◌/◌, ◌%◌, ◌^◌, ◌<◌, ◌≡◌, Bool, true, ◌&&◌, ◌||◌, if◌then◌else◌, ◌==◌, nat_le, bit_or, get_or}
use Rattle.reg_map.specs.Fields.{bit_of, field_of}
use Rattle.reg_map.specs.Registers.{IsRegister}
use Rattle.reg_map.specs.declared.register.GpioReg.{GpioReg}
use Rattle.reg_map.specs.declared.register.GpioReg.TheVariants as kind
use Rattle.reg_map.specs.declared.register.Reg.{Reg}
use Rattle.reg_map.specs.declared.register.Reg.TheVariants as reg
use Rattle.reg_machine.specs.declared.op.Op.{Op}
use Rattle.reg_machine.specs.declared.op.Op.TheVariants as op
use Rattle.reg_machine.specs.declared.state.State.{State}

-- a bit that reads as a flag
abbrev pub flag : Bool → ℕ → ℕ
flag b value = if b then value else 0

-- the place of a GPIO register's word
abbrev pub number : GpioReg → ℕ
number kind.Moder = 0
number kind.Otyper = 1
number kind.Ospeedr = 2
number kind.Pupdr = 3
number kind.Afrl = 4
number kind.Afrh = 5

abbrev pub slot : ℕ → GpioReg → ℕ
slot port k = port * 6 + number k

-- a register's word as it reads: the ready bits are the flags, SWS is the source and LATENCY the latency in effect. Of
-- PWR_CSR only ODRDY and ODSWRDY read
abbrev pub word_of : State → Reg → ℕ
word_of s reg.Cr = bit_or (bit_or (bit_or s.cr 2) (flag s.hse_ready (2 ^ 17))) (flag s.pll_ready (2 ^ 25))
word_of s reg.Pllcfgr = s.pllcfgr
word_of s reg.Cfgr = s.cfgr + 4 * s.source
word_of s reg.Ahb1enr = s.ahb1enr
word_of s reg.Apb1enr = s.apb1enr
word_of s reg.Acr = s.acr - s.acr % 8 + s.latency
word_of s reg.PwrCr = s.pwr_cr
word_of s reg.PwrCsr = flag s.over_ready (2 ^ 16) + flag s.over_switched (2 ^ 17)
word_of s (reg.Gpio port k) = get_or s.gpio (slot port k) 0

-- whether a source is ready: HSI 0, HSE 1, PLL 2
abbrev pub is_ready : State → ℕ → Bool
is_ready s source = if source == 0 then true else (if source == 1 then s.hse_ready else (source == 2 && s.pll_ready))

-- the source that SRC of RCC_PLLCFGR names
abbrev pub pll_source : ℕ → ℕ
pll_source word = word / 2 ^ 22 % 2

-- a source is in use where it is in effect, or SW asks for it, or PLLON is set and SRC names it
abbrev pub in_use : State → ℕ → Bool
in_use s source = (s.source == source) || ((s.cfgr % 4 == source) || (bit_of 24 s.cr && (pll_source s.pllcfgr == source)))

-- M, N and Q that the PLL takes
abbrev pub is_whole : ℕ → Bool
is_whole word = nat_le 2 (field_of 0 6 word) && (nat_le 50 (field_of 6 9 word) && (nat_le (field_of 6 9 word) 432 && nat_le 2 (field_of 24 4 word)))

-- what a state keeps
pub record IsStored (s : State) : Type 0 where
  pub source_small : s.source < 4
  pub latency_small : s.latency < 8
  pub cfgr_fields : s.cfgr % 16 < 4
  pub polls_small : s.polls + 1 < 2 ^ 32
  pub pll_whole : is_whole s.pllcfgr ≡ true

-- an op on a register that there is
abbrev pub IsOp : Op → Type 0
IsOp (op.Write r value) = IsRegister r
IsOp (op.Modify r clear set) = IsRegister r
IsOp (op.Read r) = IsRegister r
IsOp (op.Await r mask want polls name) = IsRegister r
