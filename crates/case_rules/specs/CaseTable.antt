-- The table of a made case: what its text says. Only what the two needed signals can have goes with the number.
use Rattle.std.specs.Prelude.{ℕ, zero, suc, ◌+◌, ◌/◌, ◌%◌, List, [], ◌∷◌, ◌++◌, true, false, Some, None, codes}
use Rattle.big_case.specs.Case.{pin, signal_name}
use Rattle.res_model.specs.declared.table.Bounds.{Bounds}
use Rattle.res_model.specs.declared.table.Domains.{Domains}
use Rattle.res_model.specs.declared.table.FlashRange.{FlashRange}
use Rattle.res_model.specs.declared.table.Ip.{Ip}
use Rattle.res_model.specs.declared.table.Mode.TheVariants as mode
use Rattle.res_model.specs.declared.table.Need48.TheVariants.{Exact}
use Rattle.res_model.specs.declared.table.Pin.{Pin}
use Rattle.res_model.specs.declared.table.PinUse.{PinUse}
use Rattle.res_model.specs.declared.table.Role.{Role}
use Rattle.res_model.specs.declared.table.Role.TheVariants as role
use Rattle.res_model.specs.declared.table.Scale.{Scale}
use Rattle.res_model.specs.declared.table.TableParts.{TableParts}
use Rattle.res_model.specs.declared.table.TableSignal.{TableSignal}

-- f of 0, 1 and so on, n of them
unfoldable pub listed : {X : Type 0} → ℕ → (ℕ → X) → List X
listed zero f = []
listed (suc n) f = listed n f ++ f n ∷ []

-- # Pins

unfoldable pub numbered_pin : ℕ → Pin
numbered_pin k = record { name = pin k; port = k / 16; number = k % 16 }

unfoldable pub named_pin : List ℕ → ℕ → ℕ → Pin
named_pin name port number = record { name = name; port = port; number = number }

-- 112 pins of the ports A to G, and three more
unfoldable pub pins : List Pin
pins = listed 112 numbered_pin ++ (named_pin (codes "PH0") 7 0 ∷ named_pin (codes "PH1") 7 1 ∷ named_pin (codes "PI0") 8 0 ∷ [])

-- # Signals

unfoldable pub signal : List ℕ → Role → List PinUse → TableSignal
signal name kind at = record { name = name; role = kind; ip = None; drain = false; at = at }

unfoldable pub alt : ℕ → ℕ → PinUse
alt k function = record { pin = k; mode = mode.Alt function }

unfoldable pub osc : ℕ → PinUse
osc k = record { pin = k; mode = mode.Osc }

-- a signal that can be at either of two pins
unfoldable pub at_either : List ℕ → ℕ → ℕ → ℕ → TableSignal
at_either name function first second = signal name role.Alt (alt first function ∷ alt second function ∷ [])

unfoldable pub moving : ℕ → TableSignal
moving j = at_either (signal_name j) 1 j (16 + j)

-- the two that are needed, for the number of a case modulo 13
unfoldable pub needed : ℕ → List TableSignal
needed a = at_either (codes "N0") 2 a ((a + 1) % 13) ∷ at_either (codes "N1") 2 ((a + 2) % 13) ((a + 3) % 13) ∷ []

unfoldable pub usb : TableSignal
usb = record { name = codes "CASE_USB"; role = role.Alt; ip = Some (codes "CASE_USB"); drain = false; at = alt 114 10 ∷ [] }

unfoldable pub others : List TableSignal
others = signal (codes "OUT") role.Output [] ∷ signal (codes "OSC_IN") role.Osc (osc 112 ∷ []) ∷ signal (codes "OSC_OUT") role.Osc (osc 113 ∷ []) ∷ usb ∷ []

unfoldable pub signals : ℕ → List TableSignal
signals a = listed 13 moving ++ (needed a ++ others)

-- # The rest

unfoldable pub ip : Ip
ip = record { name = codes "CASE_USB"; clock48 = Exact; floor = 14200001; marks = [] }

unfoldable pub clock : Domains
clock = record {
  hpre = 1 ∷ 2 ∷ 4 ∷ 8 ∷ 16 ∷ 64 ∷ 128 ∷ 256 ∷ 512 ∷ [];
  p = 2 ∷ 4 ∷ 6 ∷ 8 ∷ [];
  m = (2, 63);
  n = (50, 432);
  q = (2, 15);
  ppre1 = 1 ∷ 2 ∷ 4 ∷ 8 ∷ 16 ∷ [];
  ppre2 = 1 ∷ 2 ∷ 4 ∷ 8 ∷ 16 ∷ [];
  vos = 1 ∷ 2 ∷ [];
}

unfoldable pub limits : Bounds
limits = record {
  crystal = (4000000, 26000000);
  bypass = (1000000, 50000000);
  vco_in = (1000000, 2000000);
  vco = (100000000, 432000000);
  sysclk = 168000000;
  pclk1 = 42000000;
  pclk2 = 84000000;
}

unfoldable pub scales : List Scale
scales = record { vos = 1; max = 168000000 } ∷ record { vos = 2; max = 144000000 } ∷ []

-- the wait states of each range of the supply
unfoldable pub flash : List FlashRange
flash =
    record { from = 1800; to = 2099; prefetch = false; rows = 20000000 ∷ 40000000 ∷ 60000000 ∷ 80000000 ∷ 100000000 ∷ 120000000 ∷ 140000000 ∷ 160000000 ∷ [] }
    ∷ record { from = 2100; to = 2399; prefetch = true; rows = 22000000 ∷ 44000000 ∷ 66000000 ∷ 88000000 ∷ 110000000 ∷ 132000000 ∷ 154000000 ∷ 168000000 ∷ [] }
    ∷ record { from = 2400; to = 2699; prefetch = true; rows = 24000000 ∷ 48000000 ∷ 72000000 ∷ 96000000 ∷ 120000000 ∷ 144000000 ∷ 168000000 ∷ [] }
    ∷ record { from = 2700; to = 3600; prefetch = true; rows = 30000000 ∷ 60000000 ∷ 90000000 ∷ 120000000 ∷ 150000000 ∷ 168000000 ∷ [] } ∷ []

-- src, psrc, hpre, p, m, n, q, ppre1, ppre2 and vos
unfoldable pub defaults : List ℕ
defaults = 0 ∷ 0 ∷ 1 ∷ 2 ∷ 16 ∷ 192 ∷ 4 ∷ 1 ∷ 1 ∷ 1 ∷ []

-- the table for a, the number of a case modulo 13
unfoldable pub table_for : ℕ → TableParts
table_for a = record {
  version = 1;
  names = codes "CASE" ∷ [];
  «package» = codes "CASE";
  pins = pins;
  signals = signals a;
  hse_in = codes "OSC_IN";
  hse_out = codes "OSC_OUT";
  ips = ip ∷ [];
  clock = clock;
  limits = limits;
  over = None;
  scales = scales;
  flash = flash;
  defaults = defaults;
  hse_hz = 8000000;
}

unfoldable pub case_table : ℕ → TableParts
case_table number = table_for (number % 13)
