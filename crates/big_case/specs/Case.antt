-- The made case of a number: the text of its table, the text of its project, and the signals that are needed besides.
-- Only what the two needed signals can have goes with the number.
use Rattle.std.specs.Prelude.{ℕ, zero, suc, ◌+◌, ◌/◌, ◌%◌, List, [], ◌∷◌, ◌++◌, codes, decimal}
use Rattle.big_case.specs.Rest.{clock_keys, domains, flash, limits, oscillator, scales, start}

-- f of 0, 1 and so on, n of them, one behind the other
unfoldable pub joined : ℕ → (ℕ → List ℕ) → List ℕ
joined zero f = []
joined (suc n) f = joined n f ++ f n

-- The pins are counted through the ports, sixteen each: pin 0 is PA0, pin 16 is PB0, and pin 111 is PG15.
unfoldable pub pin : ℕ → List ℕ
pin k = codes "P" ++ (65 + k / 16) ∷ decimal (k % 16)

-- The thirteen signals that may move are S0 to S12.
unfoldable pub signal_name : ℕ → List ℕ
signal_name j = codes "S" ++ decimal j

-- # The table

unfoldable pub head : List ℕ
head = codes "{\"version\":1,\"names\":[\"CASE\"],\"package\":\"CASE\",\n\"pins\":[\n"

unfoldable pub listed_pin : ℕ → List ℕ
listed_pin k = codes "\"" ++ pin k ++ codes "\",\n"

unfoldable pub last_pins : List ℕ
last_pins = codes "\"PH0\",\"PH1\",\"PI0\"],\n\"signals\":[\n"

-- a pin with the alternate function that brings the signal there
unfoldable pub row : ℕ → ℕ → List ℕ
row k function = codes "[\"" ++ pin k ++ codes "\"," ++ decimal function ++ codes "]"

unfoldable pub two_rows : ℕ → ℕ → ℕ → List ℕ
two_rows function first second = row first function ++ codes "," ++ row second function

unfoldable pub before_name : List ℕ
before_name = codes "{\"name\":\""

unfoldable pub before_rows : List ℕ
before_rows = codes "\",\"use\":\"alt\",\"at\":["

-- a signal that can be at either of two pins
unfoldable pub signal_row : List ℕ → ℕ → ℕ → ℕ → List ℕ
signal_row name function first second = before_name ++ name ++ before_rows ++ two_rows function first second ++ codes "]},\n"

-- S0 at PA0 or PB0, S1 at PA1 or PB1, and so on
unfoldable pub moving_signal : ℕ → List ℕ
moving_signal j = signal_row (signal_name j) 1 j (16 + j)

-- N0 and N1 at four pins of port A, one after the other, begun at the number of the case and again at PA0 after PA12
unfoldable pub needed_signals : ℕ → List ℕ
needed_signals number =
    let a = number % 13 in
    signal_row (codes "N0") 2 a ((a + 1) % 13) ++ signal_row (codes "N1") 2 ((a + 2) % 13) ((a + 3) % 13)

unfoldable pub last_signals : List ℕ
last_signals =
    codes "{\"name\":\"OUT\",\"use\":\"output\"},\n"
    ++ codes "{\"name\":\"OSC_IN\",\"use\":\"osc\",\"at\":[\"PH0\"]},\n"
    ++ codes "{\"name\":\"OSC_OUT\",\"use\":\"osc\",\"at\":[\"PH1\"]},\n"
    ++ codes "{\"name\":\"CASE_USB\",\"use\":\"alt\",\"ip\":\"CASE_USB\",\"at\":[[\"PI0\",10]]}],\n"

-- all after the signals
unfoldable pub rest : List ℕ
rest = oscillator ++ domains ++ limits ++ scales ++ flash ++ start

unfoldable pub table_text : ℕ → List ℕ
table_text number =
    head ++ joined 112 listed_pin ++ last_pins ++ joined 13 moving_signal ++ needed_signals number ++ last_signals ++ rest

-- # The project

unfoldable pub part : List ℕ
part = codes "Mcu.Name=CASE\nMcu.Package=CASE\n"

-- the pin that the project has at a place of its list
unfoldable pub pin_line : ℕ → ℕ → List ℕ
pin_line place k = codes "Mcu.Pin" ++ decimal place ++ codes "=" ++ pin k ++ codes "\n"

unfoldable pub signal_line : ℕ → List ℕ → List ℕ
signal_line k name = pin k ++ codes ".Signal=" ++ name ++ codes "\n"

unfoldable pub placed : ℕ → ℕ → List ℕ → List ℕ
placed place k name = pin_line place k ++ signal_line k name

-- S0 on PA0, S1 on PA1, and so on
unfoldable pub placed_signal : ℕ → List ℕ
placed_signal j = placed j j (signal_name j)

unfoldable pub clock_pins : List ℕ
clock_pins =
    codes "Mcu.Pin13=PH0\nPH0.Signal=OSC_IN\n"
    ++ codes "Mcu.Pin14=PH1\nPH1.Signal=OSC_OUT\n"
    ++ codes "Mcu.Pin15=PI0\nPI0.Signal=CASE_USB\n"

-- outputs on PC0 to PG15, behind the sixteen pins before them
unfoldable pub placed_output : ℕ → List ℕ
placed_output i = placed (16 + i) (32 + i) (codes "OUT")

unfoldable pub project_text : List ℕ
project_text = part ++ joined 13 placed_signal ++ clock_pins ++ joined 80 placed_output ++ clock_keys

-- # The needs

unfoldable pub needs : List (List ℕ)
needs = codes "N0" ∷ codes "N1" ∷ []
