-- The project of a made case: its lines, and what they mean under the table. It is the same for every number.
use Rattle.std.specs.Prelude.{ℕ, zero, suc, ◌+◌, ◌*◌, List, [], ◌∷◌, ◌++◌, true, false, Some, None, codes, decimal}
use Rattle.big_case.specs.Case.{pin, signal_name}
use Rattle.case_rules.specs.CaseTable.{listed}
use Rattle.ioc_text.specs.declared.line.Line.{Line}
use Rattle.res_model.specs.declared.project.Home.{Home}
use Rattle.res_model.specs.declared.project.Project.{Project}
use Rattle.res_model.specs.declared.project.Pull.TheVariants.{None as NoPull}
use Rattle.res_model.specs.declared.project.Signal.{Signal}
use Rattle.res_model.specs.declared.project.Speed.TheVariants.{Low}

-- # Lines

unfoldable pub line : ℕ → List ℕ → List ℕ → Line
line number key value = record { number = number; key = key; value = value }

-- a pin at a place of the list, and its signal, in two lines of which the first has this number
unfoldable pub two_lines : ℕ → ℕ → List ℕ → List ℕ → List Line
two_lines number place name signal =
    line number (codes "Mcu.Pin" ++ decimal place) name ∷ line (number + 1) (name ++ codes ".Signal") signal ∷ []

-- two lines for each of 0, 1 and so on, n of them
unfoldable pub all_lines : ℕ → (ℕ → List Line) → List Line
all_lines zero f = []
all_lines (suc n) f = all_lines n f ++ f n

unfoldable pub moving_lines : ℕ → List Line
moving_lines j = two_lines (3 + 2 * j) j (pin j) (signal_name j)

unfoldable pub output_lines : ℕ → List Line
output_lines i = two_lines (35 + 2 * i) (16 + i) (pin (32 + i)) (codes "OUT")

unfoldable pub part_lines : List Line
part_lines = line 1 (codes "Mcu.Name") (codes "CASE") ∷ line 2 (codes "Mcu.Package") (codes "CASE") ∷ []

unfoldable pub clock_pin_lines : List Line
clock_pin_lines =
    two_lines 29 13 (codes "PH0") (codes "OSC_IN") ++ (two_lines 31 14 (codes "PH1") (codes "OSC_OUT") ++ two_lines 33 15 (codes "PI0") (codes "CASE_USB"))

unfoldable pub clock_lines : List Line
clock_lines =
    line 195 (codes "RCC.APB1CLKDivider") (codes "RCC_HCLK_DIV4")
    ∷ line 196 (codes "RCC.APB2CLKDivider") (codes "RCC_HCLK_DIV2")
    ∷ line 197 (codes "RCC.HSE_VALUE") (codes "8000000")
    ∷ line 198 (codes "RCC.PLLM") (codes "8")
    ∷ line 199 (codes "RCC.PLLN") (codes "336")
    ∷ line 200 (codes "RCC.PLLQ") (codes "4")
    ∷ line 201 (codes "RCC.PLLSourceVirtual") (codes "RCC_PLLSOURCE_HSE")
    ∷ line 202 (codes "RCC.SYSCLKSource") (codes "RCC_SYSCLKSOURCE_PLLCLK") ∷ []

unfoldable pub case_lines : List Line
case_lines = part_lines ++ (all_lines 13 moving_lines ++ (clock_pin_lines ++ (all_lines 80 output_lines ++ clock_lines)))

-- # The project

unfoldable pub at_home : List ℕ → ℕ → Signal
at_home name home = record { name = name; home = Some home; locked = false; need = false; pull = NoPull; speed = Low }

unfoldable pub moving : ℕ → Signal
moving j = at_home (signal_name j) j

unfoldable pub output : ℕ → Signal
output i = at_home (codes "OUT") (32 + i)

unfoldable pub needed : List ℕ → Signal
needed name = record { name = name; home = None; locked = false; need = true; pull = NoPull; speed = Low }

unfoldable pub clock_signals : List Signal
clock_signals = at_home (codes "OSC_IN") 112 ∷ at_home (codes "OSC_OUT") 113 ∷ at_home (codes "CASE_USB") 114 ∷ []

unfoldable pub case_signals : List Signal
case_signals = listed 13 moving ++ (clock_signals ++ (listed 80 output ++ (needed (codes "N0") ∷ needed (codes "N1") ∷ [])))

-- the home that a line gives; line 0 stands for the table's default
unfoldable pub home : ℕ → ℕ → Home
home value line = record { value = value; line = line }

-- src, psrc, hpre, p, m, n, q, ppre1, ppre2 and vos
unfoldable pub case_homes : List Home
case_homes = home 2 202 ∷ home 1 201 ∷ home 1 0 ∷ home 2 0 ∷ home 8 198 ∷ home 336 199 ∷ home 4 200 ∷ home 4 195 ∷ home 2 196 ∷ home 1 0 ∷ []

unfoldable pub case_project : Project
case_project = record { signals = case_signals; clock = case_homes; hse_hz = 8000000; marks = [] }
