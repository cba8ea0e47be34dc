-- The table that bytes say: each path of the form in its order, or the first fault.
use Rattle.std.specs.Prelude.{ℕ, ◌==◌, ◌-◌, ◌&&◌, ◌||◌, List, [], ◌∷◌, length, Bool, false, not, nat_lt, nat_le, if◌then◌else◌, Option, Some, None, option_and_then, Result, Ok, Err, codes, slice_index, slice_get, option_map}
use Rattle.std.specs.List.{list_any}
use Rattle.std.specs.Str.{bytes_eq}
use Rattle.res_model.specs.declared.limit.Limit.{Limit}
use Rattle.res_model.specs.declared.limit.Limit.TheVariants as the_limit
use Rattle.res_model.specs.Steps.{◌>>=◌}
use Rattle.res_model.specs.ClockValues.{ahb_dividers, apb_dividers, pll_dividers, known_steps, widest_hclk, hsi}
use Rattle.res_model.specs.Power.{speeds_at}
use Rattle.res_model.specs.PinNames.{spot, place}
use Rattle.table_members.specs.Json.{json_of, two, number, word}
use Rattle.table_members.specs.Forms.{Form, EntryForm, below, due, must, member, optional, top, nested, text, flag, object, object_if_there, number_within, number_among, pair_within, list, fresh, any_text, distinct_text, is_above_last, above, some_among, one_among}
use Rattle.table_members.specs.declared.fault.TableFault.{TableFault}
use Rattle.table_members.specs.declared.fault.TableFault.TheVariants.{NotJson, BadField, ResetIllegal}
use Rattle.res_model.specs.declared.table.Pin.{Pin}
use Rattle.res_model.specs.declared.table.Role.{Role}
use Rattle.res_model.specs.declared.table.Role.TheVariants as role
use Rattle.res_model.specs.declared.table.Mode.{Mode}
use Rattle.res_model.specs.declared.table.Mode.TheVariants as mode
use Rattle.res_model.specs.declared.table.PinUse.{PinUse}
use Rattle.res_model.specs.declared.table.TableSignal.{TableSignal}
use Rattle.res_model.specs.declared.table.Need48.{Need48}
use Rattle.res_model.specs.declared.table.Need48.TheVariants.{Nothing, Exact, Most}
use Rattle.res_model.specs.declared.table.Ip.{Ip}
use Rattle.res_model.specs.declared.table.Domains.{Domains}
use Rattle.res_model.specs.declared.table.Bounds.{Bounds}
use Rattle.res_model.specs.declared.table.Scale.{Scale}
use Rattle.res_model.specs.declared.table.FlashRange.{FlashRange}
use Rattle.res_model.specs.declared.table.Over.{Over}
use Rattle.res_model.specs.declared.table.TableParts.{TableParts}
use Rattle.serde_json.specs.Data.{Data}
use Rattle.serde_json.specs.Find.{get, as_str}

-- ---- pins

-- two pins of one name, or of one port and number, are equal entries
abbrev pub is_same_pin : List ℕ → ℕ × ℕ → Pin → Bool
is_same_pin name place p = bytes_eq p.name name || (p.port == place.0 && p.number == place.1)

unfoldable pub pin : EntryForm Pin
pin before path d = do
  name ← text path d
  place ← due (BadField path) (spot name)
  fresh path (list_any (is_same_pin name place) before) (record { name = name; port = place.0; number = place.1 })

-- ---- signals

unfoldable pub role_of : List ℕ → Option Role
role_of w =
    if bytes_eq w (codes "alt") then Some role.Alt else
    (if bytes_eq w (codes "input") then Some role.Input else
    (if bytes_eq w (codes "output") then Some role.Output else
    (if bytes_eq w (codes "analog") then Some role.Analog else
    (if bytes_eq w (codes "exti") then Some role.Exti else
    (if bytes_eq w (codes "osc") then Some role.Osc else None)))))

unfoldable pub use_form : Form Role
use_form path d = due (BadField path) (option_and_then role_of (as_str d))

-- a pin's name, as its place
unfoldable pub pin_named : List Pin → Data → Option ℕ
pin_named pins d = option_and_then (place pins) (word d)

-- a row of a pin, where no row before has the pin
abbrev pub row : List PinUse → List ℕ → Option ℕ → Mode → Result PinUse TableFault
row before path named m = do
  p ← due (BadField path) named
  fresh path (list_any (λ u. u.pin == p) before) (record { pin = p; mode = m })

-- a row of a pin's name and a number 0 to 15
unfoldable pub alt_row : List Pin → EntryForm PinUse
alt_row pins before path d = do
  ds ← due (BadField path) (two d)
  p ← due (BadField path) (pin_named pins ds.0)
  n ← number_within 0 15 path ds.1
  row before path (Some p) (mode.Alt n)

-- a row of a pin's name alone
unfoldable pub pin_row : List Pin → Mode → EntryForm PinUse
pin_row pins m before path d = row before path (pin_named pins d) m

-- the member must not be there
unfoldable pub no_rows : Form (List PinUse)
no_rows path d = Err (BadField path)

unfoldable pub rows : List Pin → Role → Form (List PinUse)
rows pins role.Alt path d = member (list 1 16 (alt_row pins)) path (codes "at") d
rows pins role.Osc path d = member (list 1 16 (pin_row pins mode.Osc)) path (codes "at") d
rows pins role.Analog path d = optional (list 0 16 (pin_row pins mode.Analog)) [] path (codes "at") d
rows pins role.Input path d = optional no_rows [] path (codes "at") d
rows pins role.Output path d = optional no_rows [] path (codes "at") d
rows pins role.Exti path d = optional no_rows [] path (codes "at") d

-- a text that is not `-`
unfoldable pub real_name : Form (List ℕ)
real_name path d = do
  name ← text path d
  must (BadField path) (not (bytes_eq name (codes "-"))) name

-- a name that no signal before has
unfoldable pub signal_name : List TableSignal → Form (List ℕ)
signal_name before path d = do
  name ← real_name path d
  fresh path (list_any (λ s. bytes_eq s.name name) before) name

unfoldable pub some_text : Form (Option (List ℕ))
some_text path d = do
  w ← text path d
  Ok (Some w)

unfoldable pub signal : List Pin → EntryForm TableSignal
signal pins before path d = do
  o ← object path d
  name ← member (signal_name before) path (codes "name") o
  kind ← member use_form path (codes "use") o
  ip ← optional some_text None path (codes "ip") o
  drain ← optional flag false path (codes "drain") o
  at ← rows pins kind path o
  Ok (record { name = name; role = kind; ip = ip; drain = drain; at = at })

-- ---- IPs

unfoldable pub need48_of : List ℕ → Option Need48
need48_of w =
    if bytes_eq w (codes "none") then Some Nothing else
    (if bytes_eq w (codes "exact") then Some Exact else
    (if bytes_eq w (codes "most") then Some Most else None))

unfoldable pub clock48_form : Form Need48
clock48_form path d = due (BadField path) (option_and_then need48_of (as_str d))

unfoldable pub ip_name : List Ip → Form (List ℕ)
ip_name before path d = do
  name ← text path d
  fresh path (list_any (λ i. bytes_eq i.name name) before) name

unfoldable pub ip : EntryForm Ip
ip before path d = do
  o ← object path d
  name ← member (ip_name before) path (codes "name") o
  clock48 ← member clock48_form path (codes "clock48") o
  floor ← optional (number_within 0 168000000) 0 path (codes "floor") o
  marks ← optional (list 0 16 any_text) [] path (codes "marks") o
  Ok (record { name = name; clock48 = clock48; floor = floor; marks = marks })

-- ---- clocks and limits

-- one that has scale 2 with over-drive has scale 2 without it too
abbrev pub are_paired : List ℕ → Bool
are_paired steps = not (list_any (λ n. n == 5) steps) || list_any (λ n. n == 2) steps

-- the power steps of a part, by the version of its table
unfoldable pub steps : ℕ → Form (List ℕ)
steps version path d = do
  ns ← one_among (known_steps version) path d
  must (BadField path) (are_paired ns) ns

unfoldable pub clock : ℕ → Data → Result Domains TableFault
clock version d = do
  m ← nested (pair_within 2 63) (codes "clock") (codes "m") d
  n ← nested (pair_within 50 432) (codes "clock") (codes "n") d
  q ← nested (pair_within 2 15) (codes "clock") (codes "q") d
  p ← nested (some_among pll_dividers) (codes "clock") (codes "p") d
  hpre ← nested (one_among ahb_dividers) (codes "clock") (codes "hpre") d
  ppre1 ← nested (one_among apb_dividers) (codes "clock") (codes "ppre1") d
  ppre2 ← nested (one_among apb_dividers) (codes "clock") (codes "ppre2") d
  vos ← nested (steps version) (codes "clock") (codes "vos") d
  Ok (record { hpre = hpre; p = p; m = m; n = n; q = q; ppre1 = ppre1; ppre2 = ppre2; vos = vos })

unfoldable pub limits : Data → Result Bounds TableFault
limits d = do
  crystal ← nested (pair_within 4000000 26000000) (codes "limits") (codes "crystal") d
  bypass ← nested (pair_within 1000000 50000000) (codes "limits") (codes "bypass") d
  vco_in ← nested (pair_within 1000000 2000000) (codes "limits") (codes "vco_in") d
  vco ← nested (pair_within 100000000 432000000) (codes "limits") (codes "vco") d
  sysclk ← nested (number_within 1 168000000) (codes "limits") (codes "sysclk") d
  pclk1 ← nested (number_within 1 42000000) (codes "limits") (codes "pclk1") d
  pclk2 ← nested (number_within 1 84000000) (codes "limits") (codes "pclk2") d
  Ok (record { crystal = crystal; bypass = bypass; vco_in = vco_in; vco = vco; sysclk = sysclk; pclk1 = pclk1; pclk2 = pclk2 })

-- the limits with over-drive
unfoldable pub over_form : Form Over
over_form path d = do
  o ← object path d
  sysclk ← member (number_within 1 180000000) path (codes "sysclk") o
  pclk1 ← member (number_within 1 45000000) path (codes "pclk1") o
  pclk2 ← member (number_within 1 90000000) path (codes "pclk2") o
  Ok (record { sysclk = sysclk; pclk1 = pclk1; pclk2 = pclk2 })

unfoldable pub some_over : Form (Option Over)
some_over path d = do
  o ← over_form path d
  Ok (Some o)

-- they have to be there in version 2, and are passed over in version 1
unfoldable pub over : ℕ → Data → Result (Option Over) TableFault
over version d = if version == 1 then Ok None else nested some_over (codes "limits") (codes "over") d

-- the limits without over-drive, and those with it
unfoldable pub all_limits : ℕ → Data → Result (Bounds × Option Over) TableFault
all_limits version d = do
  plain ← limits d
  more ← over version d
  Ok (plain, more)

-- ---- scales

-- the power step that is due, and its greatest HCLK
unfoldable pub scale : List ℕ → EntryForm Scale
scale vos before path d = do
  o ← object path d
  number ← member (number_within (slice_index vos (length before)) (slice_index vos (length before))) path (codes "vos") o
  max ← member (number_within 1 (widest_hclk number)) path (codes "max") o
  Ok (record { vos = number; max = max })

-- one for each power step of the clock's list, in its order
abbrev pub scales : List ℕ → Form (List Scale)
scales vos path d = list (length vos) (length vos) (scale vos) path d

-- ---- flash

-- n is above the end of the range before
abbrev pub is_after : List FlashRange → ℕ → Bool
is_after before n = is_above_last (option_map (λ r. r.to) (slice_get before (length before - 1))) n

unfoldable pub flash_from : List FlashRange → Form ℕ
flash_from before path d = do
  n ← due (BadField path) (number d)
  must (BadField path) (is_after before n) n

unfoldable pub flash_to : ℕ → Form ℕ
flash_to from path d = do
  n ← due (BadField path) (number d)
  must (BadField path) (nat_le from n) n

unfoldable pub flash_range : EntryForm FlashRange
flash_range before path d = do
  o ← object path d
  from ← member (flash_from before) path (codes "from") o
  to ← member (flash_to from) path (codes "to") o
  prefetch ← member flag path (codes "prefetch") o
  rows ← member (list 1 8 above) path (codes "rows") o
  Ok (record { from = from; to = to; prefetch = prefetch; rows = rows })

-- ---- defaults

-- HSI is 0, HSE 1 and PLL 2
unfoldable pub source_of : List ℕ → Option ℕ
source_of w =
    if bytes_eq w (codes "HSI") then Some 0 else
    (if bytes_eq w (codes "HSE") then Some 1 else
    (if bytes_eq w (codes "PLL") then Some 2 else None))

unfoldable pub pll_source_of : List ℕ → Option ℕ
pll_source_of w = if bytes_eq w (codes "HSI") then Some 0 else (if bytes_eq w (codes "HSE") then Some 1 else None)

unfoldable pub source_form : Form ℕ
source_form path d = due (BadField path) (option_and_then source_of (as_str d))

unfoldable pub pll_source_form : Form ℕ
pll_source_form path d = due (BadField path) (option_and_then pll_source_of (as_str d))

-- src and psrc
unfoldable pub default_sources : Data → Result (ℕ × ℕ) TableFault
default_sources d = do
  src ← nested source_form (codes "defaults") (codes "src") d
  psrc ← nested pll_source_form (codes "defaults") (codes "psrc") d
  Ok (src, psrc)

-- hpre, p, m, n and q, each in its domain
unfoldable pub default_factors : Domains → Data → Result (ℕ × ℕ × ℕ × ℕ × ℕ) TableFault
default_factors c d = do
  hpre ← nested (number_among c.hpre) (codes "defaults") (codes "hpre") d
  p ← nested (number_among c.p) (codes "defaults") (codes "p") d
  m ← nested (number_within c.m.0 c.m.1) (codes "defaults") (codes "m") d
  n ← nested (number_within c.n.0 c.n.1) (codes "defaults") (codes "n") d
  q ← nested (number_within c.q.0 c.q.1) (codes "defaults") (codes "q") d
  Ok (hpre, p, m, n, q)

-- ppre1, ppre2 and vos, each in its domain
unfoldable pub default_buses : Domains → Data → Result (ℕ × ℕ × ℕ) TableFault
default_buses c d = do
  ppre1 ← nested (number_among c.ppre1) (codes "defaults") (codes "ppre1") d
  ppre2 ← nested (number_among c.ppre2) (codes "defaults") (codes "ppre2") d
  vos ← nested (number_among c.vos) (codes "defaults") (codes "vos") d
  Ok (ppre1, ppre2, vos)

-- the defaults of the clock variables in their order, and the HSE value in hertz
unfoldable pub defaults : Domains → Data → Result (List ℕ × ℕ) TableFault
defaults c d = do
  there ← object_if_there (below [] (codes "defaults")) (get (codes "defaults") d)
  s ← default_sources d
  f ← default_factors c d
  b ← default_buses c d
  hse ← nested (number_within 0 4294967295) (codes "defaults") (codes "hse") d
  Ok (s.0 ∷ s.1 ∷ f.0 ∷ f.1 ∷ f.2 ∷ f.3 ∷ f.4 ∷ b.0 ∷ b.1 ∷ b.2 ∷ [], hse)

-- ---- the state after reset

-- a limit of SYSCLK or of a bus is below the HSI: without over-drive, as at step 1, or with it, as at step 4
abbrev pub is_low : (Over → ℕ) → TableParts → Bool
is_low limit t = nat_lt (limit (speeds_at t 1)) hsi || nat_lt (limit (speeds_at t 4)) hsi

-- the least limit that the state after reset would break
unfoldable pub reset_fault : TableParts → Option Limit
reset_fault t =
    if is_low (λ o. o.sysclk) t then Some the_limit.Sysclk else
    (if list_any (λ s. nat_lt s.max hsi) t.scales then Some the_limit.Hclk else
    (if is_low (λ o. o.pclk1) t then Some the_limit.Pclk1 else
    (if is_low (λ o. o.pclk2) t then Some the_limit.Pclk2 else
    (if list_any (λ r. nat_lt (slice_index r.rows 0) hsi) t.flash then Some the_limit.FlashRow else None))))

abbrev pub unless_illegal : Option Limit → TableParts → Result TableParts TableFault
unless_illegal None t = Ok t
unless_illegal (Some limit) t = Err (ResetIllegal limit)

unfoldable pub legal : TableParts → Result TableParts TableFault
legal t = unless_illegal (reset_fault t) t

-- ---- the whole

-- the names of the signals of the oscillator's pins
unfoldable pub hse_names : Data → Result (List ℕ × List ℕ) TableFault
hse_names d = do
  hse_in ← top text (codes "hse_in") d
  hse_out ← top text (codes "hse_out") d
  Ok (hse_in, hse_out)

-- what the supply allows: the greatest HCLK at each power step of the clock's list, and the flash ranges
unfoldable pub supply : List ℕ → Data → Result (List Scale × List FlashRange) TableFault
supply vos d = do
  ss ← top (scales vos) (codes "scales") d
  rs ← top (list 0 16 flash_range) (codes "flash") d
  Ok (ss, rs)

unfoldable pub table : Data → Result TableParts TableFault
table d = do
  version ← top (number_within 1 2) (codes "version") d
  names ← top (list 1 64 distinct_text) (codes "names") d
  parcel ← top text (codes "package") d
  pins ← top (list 0 144 pin) (codes "pins") d
  signals ← top (list 0 2000 (signal pins)) (codes "signals") d
  hse ← hse_names d
  ips ← top (list 0 64 ip) (codes "ips") d
  clock ← clock version d
  limits ← all_limits version d
  power ← supply clock.vos d
  values ← defaults clock d
  legal (record { version = version; names = names; «package» = parcel; pins = pins; signals = signals; hse_in = hse.0; hse_out = hse.1; ips = ips; clock = clock; limits = limits.0; over = limits.1; scales = power.0; flash = power.1; defaults = values.0; hse_hz = values.1 })

unfoldable pub tables_of : List ℕ → Result TableParts TableFault
tables_of bytes = do
  d ← due NotJson (json_of bytes)
  table d
