-- An address that no lone register and no register of a port has.
use Rattle.std.proofs.Common.{◌≢◌, ℕ, ◌+◌, ◌*◌, ◌<◌, Option, Some, None, IfNone}
use Rattle.reg_map.specs.declared.register.GpioReg.{GpioReg}
use Rattle.reg_map.specs.declared.register.Reg.{Reg}
use Rattle.reg_map.specs.declared.register.Reg.TheVariants as reg
use Rattle.reg_map.specs.Registers.{address, offset, gpio_base, port_size, IsRegister, StandsAlone}

pub none_at : (at : ℕ) → ((r : Reg) → StandsAlone r → address r ≢ at) → ((port : ℕ) (kind : GpioReg) → port < 9 → gpio_base + port_size * port + offset kind ≢ at) → (r : Reg) → IsRegister r → address r ≢ at
none_at at lone ports reg.Cr i = lone reg.Cr tt
none_at at lone ports reg.Pllcfgr i = lone reg.Pllcfgr tt
none_at at lone ports reg.Cfgr i = lone reg.Cfgr tt
none_at at lone ports reg.Ahb1enr i = lone reg.Ahb1enr tt
none_at at lone ports reg.Apb1enr i = lone reg.Apb1enr tt
none_at at lone ports reg.Acr i = lone reg.Acr tt
none_at at lone ports reg.PwrCr i = lone reg.PwrCr tt
none_at at lone ports reg.PwrCsr i = lone reg.PwrCsr tt
none_at at lone ports (reg.Gpio port kind) i = ports port kind i

pub if_none : {X : Type 0} (o : Option X) (P Q : Type 0) → (P → Q) → IfNone o P → IfNone o Q
if_none None P Q f h = f h
if_none (Some x) P Q f h = h
