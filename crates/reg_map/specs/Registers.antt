-- Where the registers stand (RM0090, memory map and the register maps of RCC, FLASH, PWR and GPIO).
use Rattle.std.specs.Prelude.{ℕ, ◌+◌, ◌*◌, ◌<◌}
use Rattle.reg_map.specs.declared.register.GpioReg.{GpioReg}
use Rattle.reg_map.specs.declared.register.GpioReg.TheVariants as kind
use Rattle.reg_map.specs.declared.register.Reg.{Reg}
use Rattle.reg_map.specs.declared.register.Reg.TheVariants as reg

-- GPIOA, and how far the ports are apart
abbrev pub gpio_base : ℕ
gpio_base = 0x40020000

abbrev pub port_size : ℕ
port_size = 0x400

-- a register within its port
abbrev pub offset : GpioReg → ℕ
offset kind.Moder = 0x00
offset kind.Otyper = 0x04
offset kind.Ospeedr = 0x08
offset kind.Pupdr = 0x0C
offset kind.Afrl = 0x20
offset kind.Afrh = 0x24

abbrev pub address : Reg → ℕ
address reg.Cr = 0x40023800
address reg.Pllcfgr = 0x40023804
address reg.Cfgr = 0x40023808
address reg.Ahb1enr = 0x40023830
address reg.Apb1enr = 0x40023840
address reg.Acr = 0x40023C00
address reg.PwrCr = 0x40007000
address reg.PwrCsr = 0x40007004
address (reg.Gpio port k) = gpio_base + port_size * port + offset k

-- a register of a port that there is, A to I
abbrev pub IsRegister : Reg → Type 0
IsRegister reg.Cr = Unit {0}
IsRegister reg.Pllcfgr = Unit {0}
IsRegister reg.Cfgr = Unit {0}
IsRegister reg.Ahb1enr = Unit {0}
IsRegister reg.Apb1enr = Unit {0}
IsRegister reg.Acr = Unit {0}
IsRegister reg.PwrCr = Unit {0}
IsRegister reg.PwrCsr = Unit {0}
IsRegister (reg.Gpio port k) = port < 9

-- a register of no port
abbrev pub StandsAlone : Reg → Type 0
StandsAlone reg.Cr = Unit {0}
StandsAlone reg.Pllcfgr = Unit {0}
StandsAlone reg.Cfgr = Unit {0}
StandsAlone reg.Ahb1enr = Unit {0}
StandsAlone reg.Apb1enr = Unit {0}
StandsAlone reg.Acr = Unit {0}
StandsAlone reg.PwrCr = Unit {0}
StandsAlone reg.PwrCsr = Unit {0}
StandsAlone (reg.Gpio port k) = ⊥
