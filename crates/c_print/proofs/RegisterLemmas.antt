-- A register is told by its address.
use Rattle.std.proofs.Common.{◌≡◌, ℕ, ◌+◌, ◌*◌, ◌-◌, ◌/◌, ◌%◌, ◌^◌, ◌<◌, ◌≤◌, List, ◌++◌, false, cond, eqb, refl, sym, ap, ◌∙◌, arith}
use Rattle.std.proofs.lemmas.Bool.Decides.{nat_tests}
use Rattle.reg_map.specs.declared.register.GpioReg.{GpioReg}
use Rattle.reg_map.specs.declared.register.GpioReg.TheVariants as kind
use Rattle.reg_map.specs.declared.register.Reg.{Reg}
use Rattle.reg_map.specs.declared.register.Reg.TheVariants as reg
use Rattle.reg_map.specs.Registers.{address, offset, IsRegister}
use Rattle.c_print.specs.declared.part.Part.{Part}
use Rattle.c_print.specs.Text.{number_after}
use Rattle.c_print.specs.Prefixes.{Begins, BeginsNone, Below}
use Rattle.c_print.proofs.PrefixLemmas.{TellsApart}
use Rattle.c_print.proofs.NumberLemmas.{number_apart}

kind_at : ℕ → GpioReg
kind_at n = cond (eqb n 0) kind.Moder (cond (eqb n 4) kind.Otyper (cond (eqb n 8) kind.Ospeedr (cond (eqb n 12) kind.Pupdr (cond (eqb n 32) kind.Afrl kind.Afrh))))

kind_back : (k : GpioReg) → kind_at (offset k) ≡ k
unfolding kind_at
kind_back kind.Moder = refl
kind_back kind.Otyper = refl
kind_back kind.Ospeedr = refl
kind_back kind.Pupdr = refl
kind_back kind.Afrl = refl
kind_back kind.Afrh = refl

offset_small : (k : GpioReg) → offset k < 0x400
offset_small kind.Moder = omega arith
offset_small kind.Otyper = omega arith
offset_small kind.Ospeedr = omega arith
offset_small kind.Pupdr = omega arith
offset_small kind.Afrl = omega arith
offset_small kind.Afrh = omega arith

port_reg : ℕ → Reg
port_reg place = reg.Gpio (place / 0x400) (kind_at (place % 0x400))

reg_of : ℕ → Reg
reg_of a =
    cond (eqb a 0x40023800) reg.Cr
    (cond (eqb a 0x40023804) reg.Pllcfgr
    (cond (eqb a 0x40023808) reg.Cfgr
    (cond (eqb a 0x40023830) reg.Ahb1enr
    (cond (eqb a 0x40023840) reg.Apb1enr
    (cond (eqb a 0x40023C00) reg.Acr
    (cond (eqb a 0x40007000) reg.PwrCr
    (cond (eqb a 0x40007004) reg.PwrCsr (port_reg (a - 0x40020000)))))))))

in_ports : (a : ℕ) → 0x40020000 ≤ a → a < 0x40022400 → reg_of a ≡ port_reg (a - 0x40020000)
unfolding reg_of
in_ports a low high =
    let a1 : eqb a 0x40023800 ≡ false = grind (arith, nat_tests) in
    let a2 : eqb a 0x40023804 ≡ false = grind (arith, nat_tests) in
    let a3 : eqb a 0x40023808 ≡ false = grind (arith, nat_tests) in
    let a4 : eqb a 0x40023830 ≡ false = grind (arith, nat_tests) in
    let a5 : eqb a 0x40023840 ≡ false = grind (arith, nat_tests) in
    let a6 : eqb a 0x40023C00 ≡ false = grind (arith, nat_tests) in
    let a7 : eqb a 0x40007000 ≡ false = grind (arith, nat_tests) in
    let a8 : eqb a 0x40007004 ≡ false = grind (arith, nat_tests) in
    rw (a1, a2, a3, a4, a5, a6, a7, a8) refl

place_back : (port off a : ℕ) → off < 0x400 → a ≡ 0x40020000 + 0x400 * port + off → ((a - 0x40020000) / 0x400 ≡ port) × ((a - 0x40020000) % 0x400 ≡ off)
place_back port off a h e = (omega arith, omega arith)

reg_back : (r : Reg) → IsRegister r → reg_of (address r) ≡ r
unfolding reg_of port_reg
reg_back reg.Cr f = refl
reg_back reg.Pllcfgr f = refl
reg_back reg.Cfgr f = refl
reg_back reg.Ahb1enr f = refl
reg_back reg.Apb1enr f = refl
reg_back reg.Acr f = refl
reg_back reg.PwrCr f = refl
reg_back reg.PwrCsr f = refl
reg_back (reg.Gpio port k) f =
    let small = offset_small k in
    let a = 0x40020000 + 0x400 * port + offset k in
    let back = place_back port (offset k) a small refl in
    in_ports a (omega arith) (omega (arith, small, f)) ∙ ap (λ p. reg.Gpio p (kind_at ((a - 0x40020000) % 0x400))) back.0
    ∙ ap (λ o. reg.Gpio port (kind_at o)) back.1 ∙ ap (reg.Gpio port) (kind_back k)

pub same_reg : (r s : Reg) → IsRegister r → IsRegister s → address r ≡ address s → r ≡ s
same_reg r s fr fs e = sym (reg_back r fr) ∙ ap reg_of e ∙ reg_back s fs

pub address_small : (r : Reg) → IsRegister r → address r < 2 ^ 32
address_small reg.Cr f = omega arith
address_small reg.Pllcfgr f = omega arith
address_small reg.Cfgr f = omega arith
address_small reg.Ahb1enr f = omega arith
address_small reg.Apb1enr f = omega arith
address_small reg.Acr f = omega arith
address_small reg.PwrCr f = omega arith
address_small reg.PwrCsr f = omega arith
address_small (reg.Gpio port k) f = let small = offset_small k in omega (arith, small, f)

abbrev pub register_after : Part → Reg → List ℕ
register_after before r = number_after before (address r)

pub register_apart : (before : Part) → TellsApart (register_after before) IsRegister
register_apart before r s xs ys fr fs e =
    let both = number_apart before (address r) (address s) xs ys (address_small r fr) (address_small s fs) e in
    (same_reg r s fr fs both.0, both.1)

-- no number, so no register
pub register_none : (before : Part) (text : List ℕ) → BeginsNone (number_after before) (Below (2 ^ 32)) text → BeginsNone (register_after before) IsRegister text
register_none before text none r rest f e = none (address r) rest (address_small r f) e

-- a number that is no register's address
pub register_other : (before : Part) (text : List ℕ) (at : ℕ) (more : List ℕ) → Begins (number_after before) (Below (2 ^ 32)) text at more → ((r : Reg) → IsRegister r → address r ≡ at → ⊥) → BeginsNone (register_after before) IsRegister text
register_other before text at more b other r rest f e = other r f (number_apart before (address r) at rest more (address_small r f) b.fits (sym e ∙ b.is)).0

pub register_found : (before : Part) (text : List ℕ) (at : ℕ) (more : List ℕ) (r : Reg) → Begins (number_after before) (Below (2 ^ 32)) text at more → IsRegister r → address r ≡ at → Begins (register_after before) IsRegister text r more
register_found before text at more r b f is = record { fits = f; is = b.is ∙ ap (λ n. number_after before n ++ more) (sym is) }
