-- The fields of PWR_CR and PWR_CSR (RM0090, PWR), and the power step that they say. Parts of version 1 have two scales and no
-- over-drive, and those of version 2 three scales and over-drive.
use Rattle.std.specs.Prelude.{ℕ, ◌-◌, ◌==◌, Bool, true, false, nat_le, if◌then◌else◌, Option, Some, None, unwrap_or}
use Rattle.reg_map.specs.Fields.{field_of}
use Rattle.reg_machine.specs.declared.state.State.{State}

-- the bits of VOS: bit 14, or bits 14 and 15
abbrev pub vos_mask : ℕ → ℕ
vos_mask version = if version == 1 then 0x00004000 else 0x0000C000

-- the bits of PWR_CR but VOS and, on parts that have over-drive, ODEN and ODSWEN
abbrev pub pwr_others : ℕ → ℕ
pwr_others version = if version == 1 then 0xFFFFBFFF else 0xFFFC3FFF

-- the scale that VOS names: scale 1 by the greatest value, and the next by each below. VOS 0 of two bits names none, and is
-- told as 4
abbrev pub scale_of : ℕ → ℕ → ℕ
scale_of version word = if version == 1 then 2 - field_of 14 1 word else 4 - field_of 14 2 word

-- the power step of a scale, with over-drive or without. There is none of scale 3 with over-drive
abbrev pub step_from : Bool → ℕ → Option ℕ
step_from false scale = if nat_le scale 3 then Some scale else None
step_from true scale = if scale == 1 then Some 4 else (if scale == 2 then Some 5 else None)

-- the power step in effect: over-drive is on where ODSWRDY is 1
abbrev pub power_of : State → Option ℕ
power_of s = step_from s.over_switched (scale_of s.version s.pwr_cr)

-- its number, or 0
abbrev pub step_of_power : State → ℕ
step_of_power s = unwrap_or (power_of s) 0
