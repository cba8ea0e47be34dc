-- A project: what the lines of its named keys mean under a table, read in seven steps. The first refusal is the answer.
use Rattle.std.specs.Prelude.{ℕ, ◌+◌, ◌==◌, ◌&&◌, ◌||◌, List, [], ◌∷◌, ◌++◌, length, map, min, drop, Bool, true, false, not, nat_eq, nat_le, nat_lt, if◌then◌else◌, Option, Some, None, Result, Ok, Err, codes, find, position, slice_index}
use Rattle.std.specs.List.{list_any, starts_with}
use Rattle.std.specs.Ordering.{nat_cmp}
use Rattle.std.specs.BTreeMap.{insert_entry}
use Rattle.std.specs.Str.{bytes_eq}
use Rattle.ioc_text.specs.Lines.{line_at, pin_number}
use Rattle.res_model.specs.Signals.{signal_named}
use Rattle.res_model.specs.Numbers.{number_of, number_up_to}
use Rattle.res_model.specs.Steps.{◌>>=◌}
use Rattle.res_model.specs.declared.opts.Free.{Free}
use Rattle.res_model.specs.declared.opts.Free.TheVariants.{Pins, Clock, All, Nothing}
use Rattle.res_model.specs.declared.opts.Opts.{Opts}
use Rattle.ioc_project.specs.declared.fault.ProjectFault.{ProjectFault}
use Rattle.ioc_project.specs.declared.fault.ProjectFault.TheVariants.{WrongPart, UnknownPin, UnknownSignal, UnknownNeed, NotCandidate, BadValue, OutOfTable, TooMany}
use Rattle.ioc_text.specs.declared.line.Line.{Line}
use Rattle.res_model.specs.declared.project.Home.{Home}
use Rattle.res_model.specs.declared.project.Project.{Project}
use Rattle.res_model.specs.declared.project.Pull.{Pull}
use Rattle.res_model.specs.declared.project.Pull.TheVariants.{None as NoPull, Up, Down}
use Rattle.res_model.specs.declared.project.Signal.{Signal}
use Rattle.res_model.specs.declared.project.Speed.{Speed}
use Rattle.res_model.specs.declared.project.Speed.TheVariants.{Low, Medium, High, VeryHigh}
use Rattle.res_model.specs.declared.table.Domains.{Domains}
use Rattle.res_model.specs.declared.table.Pin.{Pin}
use Rattle.res_model.specs.declared.table.TableParts.{TableParts}
use Rattle.res_model.specs.declared.table.TableSignal.{TableSignal}

-- the greatest number of a line, a need or a count that is told
abbrev pub capped : ℕ → ℕ
capped n = min n 4294967295

-- What values mean

abbrev pub truth_of : List ℕ → Option Bool
truth_of v = if bytes_eq v (codes "true") then Some true else (if bytes_eq v (codes "false") then Some false else None)

unfoldable pub pull_of : List ℕ → Option Pull
pull_of v =
    if bytes_eq v (codes "GPIO_NOPULL") then Some NoPull
    else (if bytes_eq v (codes "GPIO_PULLUP") then Some Up
    else (if bytes_eq v (codes "GPIO_PULLDOWN") then Some Down else None))

unfoldable pub speed_of : List ℕ → Option Speed
speed_of v =
    if bytes_eq v (codes "GPIO_SPEED_FREQ_LOW") then Some Low
    else (if bytes_eq v (codes "GPIO_SPEED_FREQ_MEDIUM") then Some Medium
    else (if bytes_eq v (codes "GPIO_SPEED_FREQ_HIGH") then Some High
    else (if bytes_eq v (codes "GPIO_SPEED_FREQ_VERY_HIGH") then Some VeryHigh else None)))

unfoldable pub hertz_of : List ℕ → Option ℕ
hertz_of v = number_up_to 4294967295 v

-- a number up to 65,535 after a beginning
unfoldable pub number_after : List ℕ → List ℕ → Option ℕ
number_after beginning v = if starts_with nat_eq v beginning then number_up_to 65535 (drop (length beginning) v) else None

-- the source of SYSCLK: HSI 0, HSE 1, PLL 2
unfoldable pub system_source_of : List ℕ → Option ℕ
system_source_of v =
    if bytes_eq v (codes "RCC_SYSCLKSOURCE_HSI") then Some 0
    else (if bytes_eq v (codes "RCC_SYSCLKSOURCE_HSE") then Some 1
    else (if bytes_eq v (codes "RCC_SYSCLKSOURCE_PLLCLK") then Some 2 else None))

-- the source of the PLL: HSI 0, HSE 1
unfoldable pub pll_source_of : List ℕ → Option ℕ
pll_source_of v =
    if bytes_eq v (codes "RCC_PLLSOURCE_HSI") then Some 0
    else (if bytes_eq v (codes "RCC_PLLSOURCE_HSE") then Some 1 else None)

-- a value of a line that breaks its form is refused with the line
abbrev pub well_formed : {X : Type 0} → ℕ → Option X → Result X ProjectFault
well_formed n None = Err (BadValue n)
well_formed n (Some x) = Ok x

-- what a line's value means by its form, or what an absent key means
abbrev pub value_or : {X : Type 0} → X → (List ℕ → Option X) → Option Line → Result X ProjectFault
value_or absent form None = Ok absent
value_or absent form (Some line) = well_formed line.number (form line.value)

-- Step 1: the part and the package are the table's

abbrev pub named_part : TableParts → Option Line → Result (Unit {0}) ProjectFault
named_part t None = Err (WrongPart 0)
named_part t (Some line) = if list_any (bytes_eq line.value) t.names then Ok tt else Err (WrongPart line.number)

abbrev pub named_package : TableParts → Option Line → Result (Unit {0}) ProjectFault
named_package t None = Ok tt
named_package t (Some line) = if bytes_eq line.value t.package then Ok tt else Err (WrongPart line.number)

unfoldable pub part_of : TableParts → List Line → Result (Unit {0}) ProjectFault
part_of t ioc = do
  part ← named_part t (line_at ioc (codes "Mcu.Name"))
  named_package t (line_at ioc (codes "Mcu.Package"))

-- Step 2: the number of pins, which has no other use, and whether all signals are kept

unfoldable pub kept_of : List Line → Result Bool ProjectFault
kept_of ioc = do
  pins ← value_or 0 number_of (line_at ioc (codes "Mcu.PinsNb"))
  value_or false truth_of (line_at ioc (codes "KeepUserPlacement"))

-- Step 3: the pins

-- a pin that holds no place
abbrev pub is_virtual : List ℕ → Bool
is_virtual name = starts_with nat_eq name (codes "VP_")

-- the line that tells this of a pin
abbrev pub pin_line_at : List Line → List ℕ → List ℕ → Option Line
pin_line_at ioc pin what = line_at ioc (pin ++ what)

abbrev pub with_number : List (ℕ × Line) → Option ℕ → Line → List (ℕ × Line)
with_number placed None line = placed
with_number placed (Some k) line = insert_entry nat_cmp placed k line

-- the lines of keys Mcu.Pin<k>, each put in its place by k
abbrev pub numbered : List (ℕ × Line) → List Line → List (ℕ × Line)
numbered placed [] = placed
numbered placed (line ∷ lines) = numbered (with_number placed (pin_number line.key) line) lines

-- the lines of keys Mcu.Pin<k>, with k ascending
unfoldable pub pin_lines : List Line → List Line
pin_lines ioc = map (λ (e : ℕ × Line). e.1) (numbered [] ioc)

-- the place of a pin in the table
unfoldable pub place_of : TableParts → List ℕ → Option ℕ
place_of t name = position (λ (p : Pin). bytes_eq p.name name) t.pins

abbrev pub known_pin : ℕ → Option ℕ → Result ℕ ProjectFault
known_pin n None = Err (UnknownPin n)
known_pin n (Some place) = Ok place

abbrev pub is_some_of : Option ℕ → ℕ → Bool
is_some_of None n = false
is_some_of (Some m) n = m == n

-- some signal is at home there
unfoldable pub is_taken : List Signal → ℕ → Bool
is_taken signals place = list_any (λ (s : Signal). is_some_of s.home place) signals

-- a smaller k has no signal there
abbrev pub free_place : ℕ → List Signal → ℕ → Result ℕ ProjectFault
free_place n before place = if is_taken before place then Err (BadValue n) else Ok place

-- the place of a pin's line
unfoldable pub place_for : TableParts → List Signal → Line → Result ℕ ProjectFault
place_for t before line = do
  place ← known_pin line.number (place_of t line.value)
  free_place line.number before place

abbrev pub known_signal : ℕ → Option TableSignal → Result (Option (ℕ × TableSignal)) ProjectFault
known_signal n None = Err (UnknownSignal n)
known_signal n (Some s) = Ok (Some (n, s))

-- the table's signal that a line names, with the line's number. Without a line the pin is held
abbrev pub signal_given : TableParts → Option Line → Result (Option (ℕ × TableSignal)) ProjectFault
signal_given t None = Ok None
signal_given t (Some line) = known_signal line.number (signal_named t line.value)

abbrev pub name_given : Option (ℕ × TableSignal) → List ℕ
name_given None = codes "-"
name_given (Some s) = s.1.name

-- a signal has rows, and none of them is at the place
unfoldable pub is_misplaced : TableSignal → ℕ → Bool
is_misplaced s place = not (length s.at == 0) && not (list_any (λ u. u.pin == place) s.at)

-- a signal that must stay can be where it is
abbrev pub candidate : Bool → ℕ → Option (ℕ × TableSignal) → Result (Unit {0}) ProjectFault
candidate locked place None = Ok tt
candidate locked place (Some s) = if locked && is_misplaced s.1 place then Err (NotCandidate s.0) else Ok tt

-- the signal of a pin's line, where kept says that every signal must stay, and before are those of smaller k
unfoldable pub signal_of : TableParts → List Line → Bool → List Signal → Line → Result Signal ProjectFault
signal_of t ioc kept before line = do
  place ← place_for t before line
  given ← signal_given t (pin_line_at ioc line.value (codes ".Signal"))
  locked ← value_or false truth_of (pin_line_at ioc line.value (codes ".Locked"))
  pull ← value_or NoPull pull_of (pin_line_at ioc line.value (codes ".GPIO_PuPd"))
  speed ← value_or Low speed_of (pin_line_at ioc line.value (codes ".GPIO_Speed"))
  stays ← candidate (locked || kept) place given
  Ok (record { name = name_given given; home = Some place; locked = locked || kept; need = false; pull = pull; speed = speed })

-- the signals with that of one more pin
unfoldable pub with_pin : TableParts → List Line → Bool → List Signal → Line → Result (List Signal) ProjectFault
with_pin t ioc kept before line =
    if is_virtual line.value then Ok before
    else (signal_of t ioc kept before line >>= λ s. Ok (before ++ s ∷ []))

-- the signals of the pins' lines, after those before
abbrev pub signals_after : TableParts → List Line → Bool → List Signal → List Line → Result (List Signal) ProjectFault
signals_after t ioc kept before [] = Ok before
signals_after t ioc kept before (line ∷ lines) = do
  found ← with_pin t ioc kept before line
  signals_after t ioc kept found lines

-- an IP of the table has this mark
unfoldable pub is_mark : TableParts → List ℕ → Bool
is_mark t text = list_any (λ ip. list_any (bytes_eq text) ip.marks) t.ips

abbrev pub mark_given : TableParts → Option Line → List (List ℕ)
mark_given t None = []
mark_given t (Some line) = if is_mark t line.value then line.value ∷ [] else []

-- the mark that a pin's line adds
unfoldable pub mark_of : TableParts → List Line → Line → List (List ℕ)
mark_of t ioc line = if is_virtual line.value then mark_given t (pin_line_at ioc line.value (codes ".Signal")) else []

-- the marks of the pins' lines
abbrev pub marks_of : TableParts → List Line → List Line → List (List ℕ)
marks_of t ioc [] = []
marks_of t ioc (line ∷ lines) = mark_of t ioc line ++ marks_of t ioc lines

-- Step 4: the needs, each a signal of the table with rows

abbrev pub known_need : ℕ → Option TableSignal → Result Signal ProjectFault
known_need n None = Err (UnknownNeed (capped n))
known_need n (Some s) =
    if length s.at == 0 then Err (UnknownNeed (capped n))
    else Ok (record { name = s.name; home = None; locked = false; need = true; pull = NoPull; speed = Low })

unfoldable pub need_of : TableParts → ℕ → List ℕ → Result Signal ProjectFault
need_of t n name = known_need n (signal_named t name)

-- the needs of these names, of which the first has this number
abbrev pub needs_from : TableParts → ℕ → List (List ℕ) → Result (List Signal) ProjectFault
needs_from t n [] = Ok []
needs_from t n (name ∷ names) = do
  need ← need_of t n name
  needs ← needs_from t (n + 1) names
  Ok (need ∷ needs)

-- Step 5: signals and needs are at most 160

unfoldable pub few : List Signal → Result (List Signal) ProjectFault
few signals = if nat_lt 160 (length signals) then Err (TooMany (capped (length signals))) else Ok signals

-- Step 6: the clock tree

abbrev pub default_home : TableParts → ℕ → Home
default_home t place = record { value = slice_index t.defaults place; line = 0 }

-- the home of the clock variable at this place: its line's value, or the table's default
abbrev pub home_of : TableParts → ℕ → (List ℕ → Option ℕ) → Option Line → Result Home ProjectFault
home_of t place form None = Ok (default_home t place)
home_of t place form (Some line) = well_formed line.number (form line.value) >>= λ v. Ok (record { value = v; line = line.number })

unfoldable pub hse_of : TableParts → List Line → Result ℕ ProjectFault
hse_of t ioc = value_or t.hse_hz hertz_of (line_at ioc (codes "RCC.HSE_VALUE"))

unfoldable pub m_home : TableParts → List Line → Result Home ProjectFault
m_home t ioc = home_of t 4 (number_after []) (line_at ioc (codes "RCC.PLLM"))

unfoldable pub n_home : TableParts → List Line → Result Home ProjectFault
n_home t ioc = home_of t 5 (number_after []) (line_at ioc (codes "RCC.PLLN"))

unfoldable pub q_home : TableParts → List Line → Result Home ProjectFault
q_home t ioc = home_of t 6 (number_after []) (line_at ioc (codes "RCC.PLLQ"))

unfoldable pub p_home : TableParts → List Line → Result Home ProjectFault
p_home t ioc = home_of t 3 (number_after (codes "RCC_PLLP_DIV")) (line_at ioc (codes "RCC.PLLP"))

unfoldable pub src_home : TableParts → List Line → Result Home ProjectFault
src_home t ioc = home_of t 0 system_source_of (line_at ioc (codes "RCC.SYSCLKSource"))

unfoldable pub psrc_home : TableParts → List Line → Result Home ProjectFault
psrc_home t ioc = home_of t 1 pll_source_of (line_at ioc (codes "RCC.PLLSourceVirtual"))

unfoldable pub hpre_home : TableParts → List Line → Result Home ProjectFault
hpre_home t ioc = home_of t 2 (number_after (codes "RCC_SYSCLK_DIV")) (line_at ioc (codes "RCC.AHBCLKDivider"))

unfoldable pub ppre1_home : TableParts → List Line → Result Home ProjectFault
ppre1_home t ioc = home_of t 7 (number_after (codes "RCC_HCLK_DIV")) (line_at ioc (codes "RCC.APB1CLKDivider"))

unfoldable pub ppre2_home : TableParts → List Line → Result Home ProjectFault
ppre2_home t ioc = home_of t 8 (number_after (codes "RCC_HCLK_DIV")) (line_at ioc (codes "RCC.APB2CLKDivider"))

-- the homes of src, psrc, hpre, p, m, n, q, ppre1, ppre2 and vos, which has no key
unfoldable pub homes_of : TableParts → List Line → Result (List Home) ProjectFault
homes_of t ioc = do
  m ← m_home t ioc
  n ← n_home t ioc
  q ← q_home t ioc
  p ← p_home t ioc
  src ← src_home t ioc
  psrc ← psrc_home t ioc
  hpre ← hpre_home t ioc
  ppre1 ← ppre1_home t ioc
  ppre2 ← ppre2_home t ioc
  Ok (src ∷ psrc ∷ hpre ∷ p ∷ m ∷ n ∷ q ∷ ppre1 ∷ ppre2 ∷ default_home t 9 ∷ [])

-- Step 7: fixed clock variables have their homes in the table's domains

abbrev pub is_among : List ℕ → ℕ → Bool
is_among values v = list_any (λ x. x == v) values

abbrev pub is_within : ℕ × ℕ → ℕ → Bool
is_within range v = nat_le range.0 v && nat_le v range.1

-- the values that the clock variables can have, in their order
abbrev pub domain_tests : Domains → List (ℕ → Bool)
domain_tests d =
    (λ v. nat_lt v 3) ∷ (λ v. nat_lt v 2) ∷ is_among d.hpre ∷ is_among d.p ∷ is_within d.m ∷ is_within d.n ∷ is_within d.q
    ∷ is_among d.ppre1 ∷ is_among d.ppre2 ∷ is_among d.vos ∷ []

abbrev pub all_within : List (ℕ → Bool) → List Home → Result (Unit {0}) ProjectFault
all_within [] homes = Ok tt
all_within (test ∷ tests) [] = Ok tt
all_within (test ∷ tests) (home ∷ homes) = if test home.value then all_within tests homes else Err (OutOfTable home.line)

abbrev pub fixes_clock : Free → Bool
fixes_clock Pins = true
fixes_clock Clock = false
fixes_clock All = false
fixes_clock Nothing = true

abbrev pub fixes_signals : Free → Bool
fixes_signals Pins = false
fixes_signals Clock = true
fixes_signals All = false
fixes_signals Nothing = true

unfoldable pub in_domains : TableParts → Bool → List Home → Result (Unit {0}) ProjectFault
in_domains t fixed homes = if fixed then all_within (domain_tests t.clock) homes else Ok tt

-- the seven steps; clocks says that clock variables are in play
unfoldable pub project_of : TableParts → List Line → Opts → Bool → Result Project ProjectFault
project_of t ioc opts clocks = do
  part ← part_of t ioc
  kept ← kept_of ioc
  signals ← signals_after t ioc (kept || fixes_signals opts.free) [] (pin_lines ioc)
  needs ← needs_from t 1 opts.needs
  all ← few (signals ++ needs)
  hse_hz ← hse_of t ioc
  homes ← homes_of t ioc
  fixed ← in_domains t (clocks && fixes_clock opts.free) homes
  Ok (record { signals = all; clock = homes; hse_hz = hse_hz; marks = marks_of t ioc (pin_lines ioc) })
