-- The accesses that set up the pins (RM0090, GPIO). A pin stands at port times 16 plus number.
use Rattle.std.specs.Prelude.{◌≡◌, ℕ, suc, ◌*◌, ◌-◌, ◌/◌, ◌%◌, ◌^◌, ◌≤◌, ◌<◌, List, [], ◌∷◌, length, get_or, Bool, true, false, ◌&&◌, if◌then◌else◌, ◌==◌, bit_or, Option, Some, None}
use Rattle.reg_map.specs.declared.register.GpioReg.{GpioReg}
use Rattle.reg_map.specs.declared.register.GpioReg.TheVariants as kind
use Rattle.reg_map.specs.declared.register.Reg.TheVariants as reg
use Rattle.reg_machine.specs.declared.op.Op.{Op}
use Rattle.reg_machine.specs.declared.op.Op.TheVariants as op
use Rattle.reg_machine.specs.Pins.{af_kind, is_debug}
use Rattle.res_model.specs.declared.project.Pull.{Pull}
use Rattle.res_model.specs.declared.project.Pull.TheVariants as pull
use Rattle.res_model.specs.declared.project.Speed.{Speed}
use Rattle.res_model.specs.declared.project.Speed.TheVariants as speed
use Rattle.res_model.specs.declared.table.Mode.{Mode}
use Rattle.res_model.specs.declared.table.Mode.TheVariants as mode
use Rattle.init_gen.specs.declared.setting.Setup.{Setup}

-- ---- what the target wants of a pin

-- an input that raises an interrupt is an input, and a pin of the oscillator or one that is only held has no mode
abbrev pub mode_wanted : Mode → Option Mode
mode_wanted (mode.Alt f) = Some (mode.Alt f)
mode_wanted mode.Input = Some mode.Input
mode_wanted mode.Output = Some mode.Output
mode_wanted mode.Analog = Some mode.Analog
mode_wanted mode.Exti = Some mode.Input
mode_wanted mode.Osc = None
mode_wanted mode.Held = None

abbrev pub wanted : Option Setup → Option Mode
wanted None = None
wanted (Some u) = mode_wanted u.mode

-- ---- a pin's fields

abbrev pub pull_code : Pull → ℕ
pull_code pull.None = 0
pull_code pull.Up = 1
pull_code pull.Down = 2

abbrev pub speed_code : Speed → ℕ
speed_code speed.Low = 0
speed_code speed.Medium = 1
speed_code speed.High = 2
speed_code speed.VeryHigh = 3

-- a modify that clears a field and sets its value
abbrev pub field_op : ℕ → GpioReg → ℕ → ℕ → ℕ → Op
field_op port k low width value = op.Modify (reg.Gpio port k) ((2 ^ width - 1) * 2 ^ low) (value * 2 ^ low)

abbrev pub pull_op : ℕ → Setup → Op
pull_op p u = field_op (p / 16) kind.Pupdr (2 * (p % 16)) 2 (pull_code u.pull)

abbrev pub speed_op : ℕ → Setup → Op
speed_op p u = field_op (p / 16) kind.Ospeedr (2 * (p % 16)) 2 (speed_code u.speed)

abbrev pub type_op : ℕ → Setup → Op
type_op p u = field_op (p / 16) kind.Otyper (p % 16) 1 (if u.drain then 1 else 0)

abbrev pub af_op : ℕ → ℕ → Op
af_op p f = field_op (p / 16) (af_kind p) (4 * (p % 8)) 4 f

abbrev pub mode_op : ℕ → ℕ → Op
mode_op p m = field_op (p / 16) kind.Moder (2 * (p % 16)) 2 m

-- ---- the accesses for a pin, in front of the rest

abbrev pub ops_in : Mode → ℕ → Setup → List Op → List Op
ops_in (mode.Alt f) p u rest = pull_op p u ∷ speed_op p u ∷ type_op p u ∷ af_op p f ∷ mode_op p 2 ∷ rest
ops_in mode.Input p u rest = pull_op p u ∷ mode_op p 0 ∷ rest
ops_in mode.Output p u rest = pull_op p u ∷ speed_op p u ∷ type_op p u ∷ mode_op p 1 ∷ rest
ops_in mode.Analog p u rest = pull_op p u ∷ mode_op p 3 ∷ rest
ops_in mode.Exti p u rest = pull_op p u ∷ mode_op p 0 ∷ rest
ops_in mode.Osc p u rest = rest
ops_in mode.Held p u rest = rest

-- a pin that stays as it is at reset: it has no mode of its own, or it is one for debugging, with AF0
abbrev pub is_left : ℕ → Mode → Bool
is_left p (mode.Alt f) = is_debug p && (f == 0)
is_left p mode.Input = false
is_left p mode.Output = false
is_left p mode.Analog = false
is_left p mode.Exti = false
is_left p mode.Osc = true
is_left p mode.Held = true

-- ---- all pins, by port and number

abbrev pub gpio_ops : ℕ → List (Option Setup) → List Op
gpio_ops p [] = []
gpio_ops p (None ∷ pins) = gpio_ops (suc p) pins
gpio_ops p (Some u ∷ pins) = if is_left p u.mode then gpio_ops (suc p) pins else ops_in u.mode p u (gpio_ops (suc p) pins)

-- the accesses of one place, and its port's bit put to those after it
abbrev pub part_of : ℕ → Option Setup → List Op
part_of p None = []
part_of p (Some u) = if is_left p u.mode then [] else ops_in u.mode p u []

abbrev pub port_and : ℕ → Option Setup → ℕ → ℕ
port_and p None x = x
port_and p (Some u) x = if is_left p u.mode then x else bit_or (2 ^ (p / 16)) x

-- the enable bits of the ports of the pins that are set up
abbrev pub ports : ℕ → List (Option Setup) → ℕ
ports p [] = 0
ports p (None ∷ pins) = ports (suc p) pins
ports p (Some u ∷ pins) = if is_left p u.mode then ports (suc p) pins else bit_or (2 ^ (p / 16)) (ports (suc p) pins)

-- where a pin is set up, the enables of the ports, read back, and then the pins
abbrev pub gpio_section : List (Option Setup) → List Op
gpio_section pins = if ports 0 pins == 0 then [] else op.Modify reg.Ahb1enr 0 (ports 0 pins) ∷ op.Read reg.Ahb1enr ∷ gpio_ops 0 pins

-- ---- the setups are whole

abbrev pub IsNarrow : Mode → Type 0
IsNarrow (mode.Alt f) = f < 16
IsNarrow mode.Input = Unit {0}
IsNarrow mode.Output = Unit {0}
IsNarrow mode.Analog = Unit {0}
IsNarrow mode.Exti = Unit {0}
IsNarrow mode.Osc = Unit {0}
IsNarrow mode.Held = Unit {0}

abbrev pub IsGiven : Option Setup → Type 0
IsGiven None = Unit {0}
IsGiven (Some u) = IsNarrow u.mode

-- there are at most as many as places, and each function is one of AF0 to AF15
pub record AreWhole (pins : List (Option Setup)) : Type 0 where
  pub few : length pins ≤ 144
  pub setup : (p : ℕ) (u : Setup) → ◌≡◌ {A = Option Setup} (get_or pins p None) (Some u) → IsNarrow u.mode
