-- The clock tree (RM0090, RCC): what a choice of the clock variables makes of the oscillators. Nodes are fractions of
-- hertz that are never rounded.
use Rattle.std.specs.Prelude.{◌≡◌, ℕ, ◌<◌, ◌≤◌, ◌^◌, ◌==◌, ◌&&◌, ◌||◌, Bool, true, false, not, if◌then◌else◌, List, [], ◌∷◌, max, Option, Some, None}
use Rattle.std.specs.List.{list_any}
use Rattle.std.specs.Str.{bytes_eq}
use Rattle.res_base.specs.Fraction.{Fraction, whole, times, over}
use Rattle.res_model.specs.ClockValues.{hsi}
use Rattle.res_model.specs.declared.clock.ClockChoice.{ClockChoice}
use Rattle.res_model.specs.declared.clock.Facts.{Facts}
use Rattle.res_model.specs.declared.clock.Nodes.{Nodes}
use Rattle.res_model.specs.declared.clock.Src.{Src}
use Rattle.res_model.specs.declared.clock.Src.TheVariants.{Hsi, Hse, Pll}
use Rattle.res_model.specs.declared.opts.Opts.{Opts}
use Rattle.res_model.specs.declared.project.Project.{Project}
use Rattle.res_model.specs.declared.project.Signal.{Signal}
use Rattle.res_model.specs.declared.table.Ip.{Ip}
use Rattle.res_model.specs.declared.table.Need48.{Need48}
use Rattle.res_model.specs.declared.table.Need48.TheVariants.{Nothing, Exact, Most}
use Rattle.res_model.specs.declared.table.TableParts.{TableParts}
use Rattle.res_model.specs.declared.table.TableSignal.{TableSignal}

-- ---- which oscillators run

abbrev pub is_hse : Src → Bool
is_hse Hsi = false
is_hse Hse = true
is_hse Pll = false

abbrev pub is_pll : Src → Bool
is_pll Hsi = false
is_pll Hse = false
is_pll Pll = true

-- the PLL is used as the system clock, or for its 48 MHz output
abbrev pub pll_used : Facts → ClockChoice → Bool
pll_used f c = is_pll c.src || f.need48

-- the HSE is used as the system clock, or by the PLL
abbrev pub hse_used : Facts → ClockChoice → Bool
hse_used f c = is_hse c.src || (pll_used f c && is_hse c.psrc)

-- ---- the nodes

-- the output of a source, where that of the PLL is given
abbrev pub output : ℕ → Fraction → Src → Fraction
output hse_hz pll Hsi = whole hsi
output hse_hz pll Hse = whole hse_hz
output hse_hz pll Pll = pll

-- the input of the PLL, which does not feed itself
abbrev pub pll_input : Facts → ClockChoice → Fraction
pll_input f c = output f.hse_hz (whole hsi) c.psrc

-- the VCO's input is the PLL's input over M, and the VCO is that times N
abbrev pub vco_in_of : Facts → ClockChoice → Fraction
vco_in_of f c = over (pll_input f c) c.m

abbrev pub vco_of : Facts → ClockChoice → Fraction
vco_of f c = times (vco_in_of f c) c.n

-- the PLL's system output is the VCO over P, and its 48 MHz output is the VCO over Q
abbrev pub system_output_of : Facts → ClockChoice → Fraction
system_output_of f c = over (vco_of f c) c.p

abbrev pub clk48_of : Facts → ClockChoice → Fraction
clk48_of f c = over (vco_of f c) c.q

abbrev pub sysclk_of : Facts → ClockChoice → Fraction
sysclk_of f c = output f.hse_hz (system_output_of f c) c.src

abbrev pub hclk_of : Facts → ClockChoice → Fraction
hclk_of f c = over (sysclk_of f c) c.hpre

abbrev pub pclk1_of : Facts → ClockChoice → Fraction
pclk1_of f c = over (hclk_of f c) c.ppre1

abbrev pub pclk2_of : Facts → ClockChoice → Fraction
pclk2_of f c = over (hclk_of f c) c.ppre2

-- the timers of a bus run at its clock where it is not divided, and else at twice its clock
abbrev pub timer : ℕ → Fraction → Fraction
timer divider pclk = if divider == 1 then pclk else times pclk 2

-- a node of the PLL is there where the PLL is used
abbrev pub where_used : Bool → Fraction → Option Fraction
where_used used x = if used then Some x else None

unfoldable pub nodes_of : Facts → ClockChoice → Nodes
nodes_of f c = record {
  vco_in = where_used (pll_used f c) (vco_in_of f c);
  vco = where_used (pll_used f c) (vco_of f c);
  sysclk = sysclk_of f c;
  hclk = hclk_of f c;
  pclk1 = pclk1_of f c;
  pclk2 = pclk2_of f c;
  tim1 = timer c.ppre1 (pclk1_of f c);
  tim2 = timer c.ppre2 (pclk2_of f c);
  clk48 = where_used (pll_used f c) (clk48_of f c);
}

-- ---- choices that a table may allow

abbrev pub IsBetween : ℕ → ℕ → ℕ → Type 0
IsBetween low high n = (low ≤ n) × (n ≤ high)

-- an oscillator, which may feed the PLL
abbrev pub IsOscillator : Src → Type 0
IsOscillator Hsi = Unit {0}
IsOscillator Hse = Unit {0}
IsOscillator Pll = ⊥

-- the widest ranges of the clock variables
pub record IsInRange (c : ClockChoice) : Type 0 where
  pub psrc : IsOscillator c.psrc
  pub hpre : IsBetween 1 512 c.hpre
  pub p : IsBetween 2 8 c.p
  pub m : IsBetween 2 63 c.m
  pub n : IsBetween 50 432 c.n
  pub q : IsBetween 2 15 c.q
  pub ppre1 : IsBetween 1 16 c.ppre1
  pub ppre2 : IsBetween 1 16 c.ppre2

-- ---- what a project and the options say of the clocks

-- a signal of the project, or a need, has the name
abbrev pub has_signal : Project → List ℕ → Bool
has_signal p name = list_any (λ (s : Signal). bytes_eq s.name name) p.signals

-- a signal of a VP_ pin is the mark
abbrev pub has_mark : Project → List ℕ → Bool
has_mark p mark = list_any (λ m. bytes_eq m mark) p.marks

-- a signal of the table belongs to the IP of this name
abbrev pub belongs : Option (List ℕ) → List ℕ → Bool
belongs None name = false
belongs (Some ip) name = bytes_eq ip name

-- an IP is in use where the project has a signal of it, or one of its marks
unfoldable pub is_in_use : TableParts → Project → Ip → Bool
is_in_use t p ip =
    list_any (λ (s : TableSignal). belongs s.ip ip.name && has_signal p s.name) t.signals
    || list_any (has_mark p) ip.marks

abbrev pub is_exact : Need48 → Bool
is_exact Nothing = false
is_exact Exact = true
is_exact Most = false

abbrev pub is_most : Need48 → Bool
is_most Nothing = false
is_most Exact = false
is_most Most = true

-- an IP in use needs the 48 MHz output so
unfoldable pub needs_exact : TableParts → Project → Bool
needs_exact t p = list_any (λ (ip : Ip). is_exact ip.clock48 && is_in_use t p ip) t.ips

unfoldable pub needs_most : TableParts → Project → Bool
needs_most t p = list_any (λ (ip : Ip). is_most ip.clock48 && is_in_use t p ip) t.ips

-- the greatest floor of the IPs in use, or 0
abbrev pub greatest_floor : TableParts → Project → List Ip → ℕ
greatest_floor t p [] = 0
greatest_floor t p (ip ∷ ips) = max (if is_in_use t p ip then ip.floor else 0) (greatest_floor t p ips)

unfoldable pub facts_of : TableParts → Project → Opts → Facts
facts_of t p opts = record {
  hse_hz = p.hse_hz;
  osc_in = has_signal p t.hse_in;
  bypass = has_signal p t.hse_in && not (has_signal p t.hse_out);
  need48 = needs_exact t p || needs_most t p;
  exact48 = needs_exact t p;
  most48 = needs_most t p;
  floor = greatest_floor t p t.ips;
  vdd = opts.vdd;
  hclk = opts.hclk;
  pclk1 = opts.pclk1;
  pclk2 = opts.pclk2;
}

-- what every such facts keep
pub record AreFacts (f : Facts) : Type 0 where
  pub hse : f.hse_hz < 2 ^ 32
  pub need48 : f.need48 ≡ (f.exact48 || f.most48)
