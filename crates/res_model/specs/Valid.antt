-- The rules that every table keeps.
use Rattle.std.specs.Prelude.{◌≡◌, ◌≢◌, ℕ, ◌<◌, ◌≤◌, List, [], ◌∷◌, length, map, Option, Some, None, IfSome, codes, ◌⊎◌, slice_index}
use Rattle.res_base.specs.Lists.{Each, Member, Pairwise}
use Rattle.res_model.specs.ClockValues.{ahb_dividers, apb_dividers, pll_dividers, known_steps, widest_hclk, hsi}
use Rattle.res_model.specs.PinNames.{spot}
use Rattle.res_model.specs.declared.table.Pin.{Pin}
use Rattle.res_model.specs.declared.table.Role.{Role}
use Rattle.res_model.specs.declared.table.Role.TheVariants as role
use Rattle.res_model.specs.declared.table.Mode.{Mode}
use Rattle.res_model.specs.declared.table.Mode.TheVariants as mode
use Rattle.res_model.specs.declared.table.PinUse.{PinUse}
use Rattle.res_model.specs.declared.table.TableSignal.{TableSignal}
use Rattle.res_model.specs.declared.table.Ip.{Ip}
use Rattle.res_model.specs.declared.table.Domains.{Domains}
use Rattle.res_model.specs.declared.table.Bounds.{Bounds}
use Rattle.res_model.specs.declared.table.Scale.{Scale}
use Rattle.res_model.specs.declared.table.FlashRange.{FlashRange}
use Rattle.res_model.specs.declared.table.Over.{Over}
use Rattle.res_model.specs.declared.table.TableParts.{TableParts}

-- ---- texts

abbrev pub IsPrinting : ℕ → Type 0
IsPrinting b = (33 ≤ b) × (b ≤ 126)

-- 1 to 64 printing bytes
pub record IsText (w : List ℕ) : Type 0 where
  pub some_byte : 1 ≤ length w
  pub short : length w ≤ 64
  pub printing : Each IsPrinting w

-- ---- pins

-- ports A to I have 16 pins each
pub record IsOnPort (p : Pin) : Type 0 where
  pub port : p.port < 9
  pub number : p.number < 16

-- the name tells the port and the number
pub record IsPin (p : Pin) : Type 0 where
  pub text : IsText p.name
  pub named : spot p.name ≡ Some (p.port, p.number)
  pub on_port : IsOnPort p

-- two pins differ in name, and in port or number
pub record AreTwoPins (p q : Pin) : Type 0 where
  pub names : p.name ≢ q.name
  pub places : p.port ≡ q.port → p.number ≢ q.number

pub record ArePins (ps : List Pin) : Type 0 where
  pub few : length ps ≤ 144
  pub each : Each IsPin ps
  pub differ : Pairwise AreTwoPins ps

-- ---- signals

abbrev pub IsFunction : Mode → Type 0
IsFunction (mode.Alt n) = n < 16
IsFunction mode.Input = ⊥
IsFunction mode.Output = ⊥
IsFunction mode.Analog = ⊥
IsFunction mode.Exti = ⊥
IsFunction mode.Osc = ⊥
IsFunction mode.Held = ⊥

-- the mode that a row of a signal of this role has
abbrev pub IsModeOf : Role → Mode → Type 0
IsModeOf role.Alt m = IsFunction m
IsModeOf role.Osc m = m ≡ mode.Osc
IsModeOf role.Analog m = m ≡ mode.Analog
IsModeOf role.Input m = ⊥
IsModeOf role.Output m = ⊥
IsModeOf role.Exti m = ⊥

-- a signal of role alt or osc has rows, and one of role input, output or exti has none
abbrev pub HasRowsDue : Role → List PinUse → Type 0
HasRowsDue role.Alt us = 1 ≤ length us
HasRowsDue role.Osc us = 1 ≤ length us
HasRowsDue role.Analog us = Unit {0}
HasRowsDue role.Input us = us ≡ []
HasRowsDue role.Output us = us ≡ []
HasRowsDue role.Exti us = us ≡ []

-- rows are at distinct pins of the table
pub record AreRows (pins : ℕ) (r : Role) (us : List PinUse) : Type 0 where
  pub few : length us ≤ 16
  pub at_pins : Each (λ (u : PinUse). u.pin < pins) us
  pub modes : Each (λ (u : PinUse). IsModeOf r u.mode) us
  pub apart : Pairwise (λ (u v : PinUse). u.pin ≢ v.pin) us
  pub due : HasRowsDue r us

pub record IsSignal (pins : ℕ) (s : TableSignal) : Type 0 where
  pub text : IsText s.name
  pub named : s.name ≢ codes "-"
  pub ip : IfSome s.ip IsText
  pub rows : AreRows pins s.role s.at

pub record AreSignals (pins : ℕ) (ss : List TableSignal) : Type 0 where
  pub few : length ss ≤ 2000
  pub each : Each (IsSignal pins) ss
  pub differ : Pairwise (λ (s u : TableSignal). s.name ≢ u.name) ss

-- ---- IPs

pub record IsIp (i : Ip) : Type 0 where
  pub text : IsText i.name
  pub floor : i.floor ≤ 168000000
  pub marks_few : length i.marks ≤ 16
  pub marks : Each IsText i.marks

pub record AreIps (is : List Ip) : Type 0 where
  pub few : length is ≤ 64
  pub each : Each IsIp is
  pub differ : Pairwise (λ (i j : Ip). i.name ≢ j.name) is

-- ---- clocks

-- a least and a greatest number within a range
pub record IsRange (low high : ℕ) (p : ℕ × ℕ) : Type 0 where
  pub least : low ≤ p.0
  pub ordered : p.0 ≤ p.1
  pub greatest : p.1 ≤ high

-- an ascending list within these numbers
pub record AreAmong (these ns : List ℕ) : Type 0 where
  pub known : Each (λ n. Member n these) ns
  pub ascending : Pairwise ◌<◌ ns

-- the domains of a table of this version. Scale 2 with over-drive is reached by scale 2, so a table that has the first has
-- the second
pub record AreDomains (version : ℕ) (c : Domains) : Type 0 where
  pub m : IsRange 2 63 c.m
  pub n : IsRange 50 432 c.n
  pub q : IsRange 2 15 c.q
  pub p : AreAmong pll_dividers c.p
  pub p_some : 1 ≤ length c.p
  pub hpre : AreAmong ahb_dividers c.hpre
  pub hpre_one : Member 1 c.hpre
  pub ppre1 : AreAmong apb_dividers c.ppre1
  pub ppre1_one : Member 1 c.ppre1
  pub ppre2 : AreAmong apb_dividers c.ppre2
  pub ppre2_one : Member 1 c.ppre2
  pub vos : AreAmong (known_steps version) c.vos
  pub vos_one : Member 1 c.vos
  pub vos_two : Member 5 c.vos → Member 2 c.vos

-- the HSI is at most each of the limits of the state after reset
pub record AreBounds (b : Bounds) : Type 0 where
  pub crystal : IsRange 4000000 26000000 b.crystal
  pub bypass : IsRange 1000000 50000000 b.bypass
  pub vco_in : IsRange 1000000 2000000 b.vco_in
  pub vco : IsRange 100000000 432000000 b.vco
  pub sysclk : b.sysclk ≤ 168000000
  pub pclk1 : b.pclk1 ≤ 42000000
  pub pclk2 : b.pclk2 ≤ 84000000
  pub reset_sysclk : hsi ≤ b.sysclk
  pub reset_pclk1 : hsi ≤ b.pclk1
  pub reset_pclk2 : hsi ≤ b.pclk2

-- the limits with over-drive
pub record AreSpeeds (o : Over) : Type 0 where
  pub sysclk : o.sysclk ≤ 180000000
  pub pclk1 : o.pclk1 ≤ 45000000
  pub pclk2 : o.pclk2 ≤ 90000000
  pub reset_sysclk : hsi ≤ o.sysclk
  pub reset_pclk1 : hsi ≤ o.pclk1
  pub reset_pclk2 : hsi ≤ o.pclk2

-- tables of version 2 have them, and those of version 1 do not; there is no other version
abbrev pub HasOver : ℕ → Option Over → Type 0
HasOver version None = version ≡ 1
HasOver version (Some o) = (version ≡ 2) × AreSpeeds o

abbrev pub IsScale : Scale → Type 0
IsScale s = (hsi ≤ s.max) × (s.max ≤ widest_hclk s.vos)

-- one for each power step of the clock's list, in its order
pub record AreScales (vos : List ℕ) (ss : List Scale) : Type 0 where
  pub order : map (λ (s : Scale). s.vos) ss ≡ vos
  pub each : Each IsScale ss

-- ---- flash

pub record IsFlashRange (r : FlashRange) : Type 0 where
  pub ordered : r.from ≤ r.to
  pub rows_some : 1 ≤ length r.rows
  pub rows_few : length r.rows ≤ 8
  pub ascending : Pairwise ◌<◌ r.rows
  pub reset : hsi ≤ slice_index r.rows 0

pub record AreFlash (rs : List FlashRange) : Type 0 where
  pub few : length rs ≤ 16
  pub each : Each IsFlashRange rs
  pub apart : Pairwise (λ (r s : FlashRange). r.to < s.from) rs

-- ---- defaults

abbrev pub IsWithin : ℕ × ℕ → ℕ → Type 0
IsWithin p n = (p.0 ≤ n) × (n ≤ p.1)

-- in the order of the clock variables, with HSI 0, HSE 1 and PLL 2
pub record AreDefaults (c : Domains) (ds : List ℕ) : Type 0 where
  pub ten : length ds ≡ 10
  pub src : slice_index ds 0 < 3
  pub psrc : slice_index ds 1 < 2
  pub hpre : Member (slice_index ds 2) c.hpre
  pub p : Member (slice_index ds 3) c.p
  pub m : IsWithin c.m (slice_index ds 4)
  pub n : IsWithin c.n (slice_index ds 5)
  pub q : IsWithin c.q (slice_index ds 6)
  pub ppre1 : Member (slice_index ds 7) c.ppre1
  pub ppre2 : Member (slice_index ds 8) c.ppre2
  pub vos : Member (slice_index ds 9) c.vos

-- ---- the whole

pub record IsValid (t : TableParts) : Type 0 where
  pub names_some : 1 ≤ length t.names
  pub names_few : length t.names ≤ 64
  pub names : Each IsText t.names
  pub names_differ : Pairwise ◌≢◌ t.names
  pub «package» : IsText t.package
  pub pins : ArePins t.pins
  pub signals : AreSignals (length t.pins) t.signals
  pub hse_in : IsText t.hse_in
  pub hse_out : IsText t.hse_out
  pub ips : AreIps t.ips
  pub clock : AreDomains t.version t.clock
  pub limits : AreBounds t.limits
  pub over : HasOver t.version t.over
  pub scales : AreScales t.clock.vos t.scales
  pub flash : AreFlash t.flash
  pub defaults : AreDefaults t.clock t.defaults
  pub hse_hz : t.hse_hz ≤ 4294967295
