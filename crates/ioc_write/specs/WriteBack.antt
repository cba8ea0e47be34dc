-- A project's text written back with a choice as its homes: what becomes of each line, and what stands behind the last.
use Rattle.std.specs.Prelude.{ℕ, ◌+◌, ◌-◌, ◌^◌, ◌==◌, ◌&&◌, List, [], ◌∷◌, ◌++◌, length, take, drop, max, filter, Bool, not, nat_lt, if◌then◌else◌, Option, Some, None, is_some, Result, Ok, Err, codes, decimal, slice_get, slice_index, slice_index_or}
use Rattle.std.specs.List.{flat_map, list_any}
use Rattle.std.specs.Option.{option_map_or, option_to_list}
use Rattle.std.specs.Str.{bytes_eq}
use Rattle.choice_rank.specs.Choices.{cost_at}
use Rattle.choice_rank.specs.declared.variable.Costs.TheVariants.{AllZero}
use Rattle.choice_rank.specs.declared.variable.VarShape.{VarShape}
use Rattle.ioc_text.specs.Lines.{pin_number, undone}
use Rattle.ioc_project.specs.Project.{is_some_of}
use Rattle.problem.specs.ClockValues.{clock_at}
use Rattle.problem.specs.Meets.{places_of}
use Rattle.problem.specs.declared.parts.ProblemParts.{ProblemParts}
use Rattle.res_model.specs.PinNames.{place}
use Rattle.res_model.specs.Placement.{uses_at}
use Rattle.res_model.specs.Steps.{◌>>=◌}
use Rattle.res_model.specs.declared.clock.ClockChoice.{ClockChoice}
use Rattle.res_model.specs.declared.clock.Src.{Src}
use Rattle.res_model.specs.declared.clock.Src.TheVariants.{Hsi, Hse, Pll}
use Rattle.res_model.specs.declared.project.Signal.{Signal}
use Rattle.res_model.specs.declared.table.Pin.{Pin}
use Rattle.res_model.specs.declared.table.PinUse.{PinUse}
use Rattle.res_model.specs.declared.table.TableParts.{TableParts}
use Rattle.ioc_write.specs.declared.change.Change.{Change}
use Rattle.ioc_write.specs.declared.change.Change.TheVariants as change
use Rattle.ioc_write.specs.declared.fate.Fate.{Fate}
use Rattle.ioc_write.specs.declared.fate.Fate.TheVariants as fate
use Rattle.ioc_write.specs.declared.fault.BackFault.{BackFault}
use Rattle.ioc_write.specs.declared.fault.BackFault.TheVariants.{NoNumber, LongLine}
use Rattle.ioc_write.specs.declared.variable.Variable.{Variable}
use Rattle.ioc_write.specs.declared.variable.Variable.TheVariants as variable
use Rattle.ioc_lines.specs.Lines.{TextLine, Keyed, keyed, text_lines, pin_part, escaped, with_pin, with_value}

-- ---- pins

-- the uses of a choice, one for each signal
abbrev pub uses_of : ProblemParts → List ℕ → List PinUse
uses_of p at = uses_at p.uses (places_of p at)

abbrev pub pin_name : TableParts → ℕ → List ℕ
pin_name t pin = option_map_or (λ (p : Pin). p.name) (slice_get t.pins pin) []

-- the use of the signal that is at home there
abbrev pub home_use : List Signal → List PinUse → ℕ → Option PinUse
home_use [] us pin = None
home_use (s ∷ ss) [] pin = None
home_use (s ∷ ss) (u ∷ us) pin = if is_some_of s.home pin then Some u else home_use ss us pin

-- a signal takes the lines of its home along, unless it stays there. The lines of a pin that was no home go where a signal comes
abbrev pub fate_by : List PinUse → ℕ → Option PinUse → Fate
fate_by us pin None = if list_any (λ (u : PinUse). u.pin == pin) us then fate.Taken else fate.Kept
fate_by us pin (Some u) = if u.pin == pin then fate.Kept else fate.Moved u.pin

unfoldable pub fate_of : List Signal → List PinUse → ℕ → Fate
fate_of ss us pin = fate_by us pin (home_use ss us pin)

-- what becomes of the lines of a name: nothing where no pin has it
abbrev pub fate_at : List Signal → List PinUse → Option ℕ → Fate
fate_at ss us None = fate.Kept
fate_at ss us (Some pin) = fate_of ss us pin

unfoldable pub fate_named : ProblemParts → List ℕ → List ℕ → Fate
fate_named p at name = fate_at p.signals (uses_of p at) (place p.tables.pins name)

-- ---- clocks

-- the variables that have keys, in their order
abbrev pub number_of : Variable → ℕ
number_of variable.System = 0
number_of variable.Input = 1
number_of variable.Ahb = 2
number_of variable.P = 3
number_of variable.M = 4
number_of variable.N = 5
number_of variable.Q = 6
number_of variable.Apb1 = 7
number_of variable.Apb2 = 8

abbrev pub variables : List Variable
variables =
    variable.System ∷ variable.Input ∷ variable.Ahb ∷ variable.P ∷ variable.M ∷ variable.N ∷ variable.Q ∷ variable.Apb1
    ∷ variable.Apb2 ∷ []

abbrev pub clock_key : Variable → List ℕ
clock_key variable.System = codes "RCC.SYSCLKSource"
clock_key variable.Input = codes "RCC.PLLSourceVirtual"
clock_key variable.Ahb = codes "RCC.AHBCLKDivider"
clock_key variable.P = codes "RCC.PLLP"
clock_key variable.M = codes "RCC.PLLM"
clock_key variable.N = codes "RCC.PLLN"
clock_key variable.Q = codes "RCC.PLLQ"
clock_key variable.Apb1 = codes "RCC.APB1CLKDivider"
clock_key variable.Apb2 = codes "RCC.APB2CLKDivider"

-- the variable of a key
unfoldable pub variable_of : List ℕ → Option Variable
variable_of key =
    if bytes_eq key (clock_key variable.System) then Some variable.System
    else (if bytes_eq key (clock_key variable.Input) then Some variable.Input
    else (if bytes_eq key (clock_key variable.Ahb) then Some variable.Ahb
    else (if bytes_eq key (clock_key variable.P) then Some variable.P
    else (if bytes_eq key (clock_key variable.M) then Some variable.M
    else (if bytes_eq key (clock_key variable.N) then Some variable.N
    else (if bytes_eq key (clock_key variable.Q) then Some variable.Q
    else (if bytes_eq key (clock_key variable.Apb1) then Some variable.Apb1
    else (if bytes_eq key (clock_key variable.Apb2) then Some variable.Apb2
    else None))))))))

abbrev pub source_text : Src → List ℕ
source_text Hsi = codes "HSI"
source_text Hse = codes "HSE"
source_text Pll = codes "PLLCLK"

-- the value of a variable in a choice, as a project spells it: a beginning and the value
abbrev pub beginning : Variable → List ℕ
beginning variable.System = codes "RCC_SYSCLKSOURCE_"
beginning variable.Input = codes "RCC_PLLSOURCE_"
beginning variable.Ahb = codes "RCC_SYSCLK_DIV"
beginning variable.P = codes "RCC_PLLP_DIV"
beginning variable.M = []
beginning variable.N = []
beginning variable.Q = []
beginning variable.Apb1 = codes "RCC_HCLK_DIV"
beginning variable.Apb2 = codes "RCC_HCLK_DIV"

abbrev pub plain : ClockChoice → Variable → List ℕ
plain c variable.System = source_text c.src
plain c variable.Input = source_text c.psrc
plain c variable.Ahb = decimal c.hpre
plain c variable.P = decimal c.p
plain c variable.M = decimal c.m
plain c variable.N = decimal c.n
plain c variable.Q = decimal c.q
plain c variable.Apb1 = decimal c.ppre1
plain c variable.Apb2 = decimal c.ppre2

unfoldable pub spelled : ClockChoice → Variable → List ℕ
spelled c v = beginning v ++ plain c v

abbrev pub no_variable : VarShape
no_variable = record { size = 0; costs = AllZero }

-- a variable is away from its home where its position costs something
unfoldable pub is_away : ProblemParts → List ℕ → Variable → Bool
is_away p at v = not (cost_at (slice_index_or p.shape (number_of v) no_variable).costs (slice_index at (number_of v)) == 0)

-- ---- what becomes of a line

-- a line Mcu.Pin<k> names the pin to which its signal moves
abbrev pub naming : Fate → Change
naming fate.Kept = change.Kept
naming (fate.Moved pin) = change.Named pin
naming fate.Taken = change.Kept

abbrev pub named_by : ProblemParts → List ℕ → Option (List ℕ) → Change
named_by p at None = change.Kept
named_by p at (Some name) = naming (fate_named p at name)

-- another line of a pin goes along with its signal, or is dropped where another signal comes
abbrev pub keyed_by : Fate → Change
keyed_by fate.Kept = change.Kept
keyed_by (fate.Moved pin) = change.Renamed pin
keyed_by fate.Taken = change.Dropped

-- the key of a clock variable that is away from its home has its value in the choice
abbrev pub change_of_key : ProblemParts → List ℕ → List ℕ → Option Variable → Change
change_of_key p at key None = keyed_by (fate_named p at (pin_part key))
change_of_key p at key (Some v) = if is_away p at v then change.Set v else change.Kept

-- by the key, and for Mcu.Pin<k> by the value
unfoldable pub change_by : ProblemParts → List ℕ → List ℕ → List ℕ → Change
change_by p at key value =
    if is_some (pin_number key) then named_by p at (undone value)
    else (if bytes_eq key (codes "Mcu.PinsNb") then change.Counted else change_of_key p at key (variable_of key))

-- what a line says once it is changed, where the output has so many keys Mcu.Pin<k>
abbrev pub said : ProblemParts → List ℕ → ℕ → List ℕ → ℕ → Change → List ℕ
said p at pins says equals change.Kept = says
said p at pins says equals change.Dropped = []
said p at pins says equals (change.Named pin) = with_value says equals (escaped (pin_name p.tables pin))
said p at pins says equals (change.Renamed pin) = with_pin says equals (escaped (pin_name p.tables pin))
said p at pins says equals (change.Set v) = with_value says equals (spelled (clock_at p.clock at) v)
said p at pins says equals change.Counted = with_value says equals (decimal pins)

-- a line that is changed has at most 65,535 bytes, and keeps its end
abbrev pub limited : ℕ → List ℕ → List ℕ → Result (List ℕ) BackFault
limited n says end = if nat_lt 65535 (length says) then Err (LongLine n) else Ok (says ++ end)

-- what is written for the line of this number
abbrev pub written : ℕ → TextLine → Change → List ℕ → Result (List ℕ) BackFault
written n l change.Kept says = Ok (l.says ++ l.end)
written n l change.Dropped says = Ok []
written n l (change.Named pin) says = limited n says l.end
written n l (change.Renamed pin) says = limited n says l.end
written n l (change.Set v) says = limited n says l.end
written n l change.Counted says = limited n says l.end

-- a line without a key stays
abbrev pub line_written_by : ProblemParts → List ℕ → ℕ → ℕ → TextLine → Option Keyed → Result (List ℕ) BackFault
line_written_by p at pins n l None = Ok (l.says ++ l.end)
line_written_by p at pins n l (Some k) =
    let change = change_by p at k.key (drop (k.equals + 1) l.says) in
    written n l change (said p at pins l.says k.equals change)

unfoldable pub line_written : ProblemParts → List ℕ → ℕ → ℕ → TextLine → Result (List ℕ) BackFault
line_written p at pins n l = line_written_by p at pins n l (keyed l.says)

-- what is written for lines of which the first has this number, or the fault of the first that gets too long
abbrev pub lines_written : ProblemParts → List ℕ → ℕ → ℕ → List TextLine → Result (List ℕ) BackFault
lines_written p at pins n [] = Ok []
lines_written p at pins n (l ∷ ls) = do
  prefix ← line_written p at pins n l
  more ← lines_written p at pins (n + 1) ls
  Ok (prefix ++ more)

-- ---- what stands behind the lines

abbrev pub number_on : Option Keyed → Option ℕ
number_on None = None
number_on (Some k) = pin_number k.key

-- the numbers k of the keys Mcu.Pin<k>
abbrev pub pin_numbers : List TextLine → List ℕ
pin_numbers ls = flat_map (λ l. option_to_list (number_on (keyed l.says))) ls

-- the next number above all of these; 0 where there is none
abbrev pub next_number : List ℕ → ℕ
next_number [] = 0
next_number (n ∷ ns) = max (n + 1) (next_number ns)

abbrev pub needs_of : List Signal → ℕ
needs_of ss = length (filter (λ (s : Signal). s.need) ss)

-- the two lines of a need
unfoldable pub pin_entry : ℕ → List ℕ → List ℕ
pin_entry k pin = codes "Mcu.Pin" ++ decimal k ++ codes "=" ++ escaped pin ++ 10 ∷ []

unfoldable pub signal_entry : List ℕ → List ℕ → List ℕ
signal_entry pin signal = escaped pin ++ codes ".Signal=" ++ escaped signal ++ 10 ∷ []

-- those of all needs, of which the first has this number
abbrev pub needs_lines : TableParts → ℕ → List Signal → List PinUse → List ℕ
needs_lines t k [] us = []
needs_lines t k (s ∷ ss) [] = []
needs_lines t k (s ∷ ss) (u ∷ us) =
    if s.need then (pin_entry k (pin_name t u.pin) ++ signal_entry (pin_name t u.pin) s.name) ++ needs_lines t (k + 1) ss us
    else needs_lines t k ss us

abbrev pub variable_on : Option Keyed → Option Variable
variable_on None = None
variable_on (Some k) = variable_of k.key

-- the clock variables whose keys the lines have
abbrev pub variables_on : List TextLine → List Variable
variables_on ls = flat_map (λ l. option_to_list (variable_on (keyed l.says))) ls

abbrev pub has_variable : List Variable → Variable → Bool
has_variable vs v = list_any (λ w. number_of w == number_of v) vs

unfoldable pub clock_entry : Variable → List ℕ → List ℕ
clock_entry v value = clock_key v ++ codes "=" ++ value ++ 10 ∷ []

-- a clock variable that is away from its home, and has no key yet, gets one
unfoldable pub clock_line : ProblemParts → List ℕ → List Variable → Variable → List ℕ
clock_line p at keys v = if is_away p at v && not (has_variable keys v) then clock_entry v (spelled (clock_at p.clock at) v) else []

abbrev pub clock_lines : ProblemParts → List ℕ → List Variable → List Variable → List ℕ
clock_lines p at keys vs = flat_map (clock_line p at keys) vs

unfoldable pub appended : ProblemParts → List ℕ → List TextLine → List ℕ
appended p at ls =
    needs_lines p.tables (next_number (pin_numbers ls)) p.signals (uses_of p at) ++ clock_lines p at (variables_on ls) variables

-- ---- the whole

abbrev pub ends_with_newline : List ℕ → Bool
ends_with_newline bytes = slice_index bytes (length bytes - 1) == 10

-- what is appended begins a line of its own
abbrev pub followed_by : List ℕ → List ℕ → List ℕ
followed_by prefix [] = prefix
followed_by prefix (b ∷ bs) = if ends_with_newline prefix then prefix ++ b ∷ bs else prefix ++ 10 ∷ b ∷ bs

-- the output has so many keys Mcu.Pin<k>
abbrev pub pins_written : ProblemParts → List TextLine → ℕ
pins_written p ls = length (pin_numbers ls) + needs_of p.signals

abbrev pub lines_back : ProblemParts → List ℕ → List TextLine → Result (List ℕ) BackFault
lines_back p at ls = do
  prefix ← lines_written p at (pins_written p ls) 1 ls
  Ok (followed_by prefix (appended p at ls))

-- the text with the choice as its homes. The needs are numbered up to 2^64 - 1
unfoldable pub written_back : List ℕ → ProblemParts → List ℕ → Result (List ℕ) BackFault
written_back text p at =
    if nat_lt (2 ^ 64) (next_number (pin_numbers (text_lines text)) + needs_of p.signals) then Err NoNumber
    else lines_back p at (text_lines text)
