-- What a choice changes against the project: a line for each clock variable that leaves its home, then one for each need and
-- for each other signal that leaves its home.
use Rattle.std.specs.Prelude.{ℕ, ◌==◌, List, [], ◌++◌, length, Option, Some, None, codes, decimal, if◌then◌else◌, slice_get, slice_index_or}
use Rattle.std.specs.Option.{option_map_or}
use Rattle.clock_tree.specs.ClockText.{source_word}
use Rattle.problem.specs.ClockValues.{clock_at, nowhere}
use Rattle.problem.specs.Meets.{use_of}
use Rattle.problem.specs.declared.parts.ProblemParts.{ProblemParts}
use Rattle.res_model.specs.ClockValues.{has_over, scale_of_step, source_number, source_of}
use Rattle.res_model.specs.declared.clock.ClockChoice.{ClockChoice}
use Rattle.res_model.specs.declared.clock.Src.{Src}
use Rattle.res_model.specs.declared.project.Home.{Home}
use Rattle.res_model.specs.declared.project.Signal.{Signal}
use Rattle.res_model.specs.declared.table.PinUse.{PinUse}
use Rattle.res_model.specs.declared.table.TableParts.{TableParts}
use Rattle.explain_text.specs.Joined.{joined}
use Rattle.explain_text.specs.Names.{pin_name}

-- ---- clock variables

unfoldable pub change_line : List ℕ → List ℕ → List ℕ → List ℕ
change_line word home value = word ++ codes " changes from " ++ home ++ codes " to " ++ value ++ codes "\n"

-- a source, with HSI 0, HSE 1 and PLL 2 as its home
unfoldable pub source_change : List ℕ → ℕ → Src → List ℕ
source_change word home source = if home == source_number source then [] else change_line word (source_word (source_of home)) (source_word source)

-- a divider or a factor
unfoldable pub number_change : List ℕ → ℕ → ℕ → List ℕ
number_change word home value = if home == value then [] else change_line word (decimal home) (decimal value)

-- a power step: its scale, and whether over-drive is on
abbrev pub over_word : ℕ → List ℕ
over_word step = if has_over step then codes " over" else []

abbrev pub step_text : ℕ → List ℕ
step_text step = decimal (scale_of_step step) ++ over_word step

unfoldable pub step_change : ℕ → ℕ → List ℕ
step_change home value = if home == value then [] else change_line (codes "voltage scale") (step_text home) (step_text value)

-- the home of the clock variable of this number
unfoldable pub home_value : List Home → ℕ → ℕ
home_value homes k = (slice_index_or homes k nowhere).value

unfoldable pub source_changes : List Home → ClockChoice → List ℕ
source_changes homes c =
    source_change (codes "clock source") (home_value homes 0) c.src
    ++ source_change (codes "PLL source") (home_value homes 1) c.psrc

unfoldable pub pll_changes : List Home → ClockChoice → List ℕ
pll_changes homes c =
    number_change (codes "AHB divider") (home_value homes 2) c.hpre
    ++ number_change (codes "PLLP") (home_value homes 3) c.p
    ++ number_change (codes "PLLM") (home_value homes 4) c.m
    ++ number_change (codes "PLLN") (home_value homes 5) c.n
    ++ number_change (codes "PLLQ") (home_value homes 6) c.q

unfoldable pub bus_changes : List Home → ClockChoice → List ℕ
bus_changes homes c =
    number_change (codes "APB1 divider") (home_value homes 7) c.ppre1
    ++ number_change (codes "APB2 divider") (home_value homes 8) c.ppre2
    ++ step_change (home_value homes 9) c.vos

-- ---- signals

unfoldable pub takes_line : List ℕ → List ℕ → List ℕ
takes_line name pin = name ++ codes " takes " ++ pin ++ codes "\n"

unfoldable pub moves_line : List ℕ → List ℕ → List ℕ → List ℕ
moves_line name home pin = name ++ codes " moves from " ++ home ++ codes " to " ++ pin ++ codes "\n"

abbrev pub move_from : TableParts → List ℕ → Option ℕ → ℕ → List ℕ
move_from t name None pin = []
move_from t name (Some home) pin = if home == pin then [] else moves_line name (pin_name t home) (pin_name t pin)

-- a need takes its pin; any other signal moves where its pin is not its home
abbrev pub signal_change : TableParts → Signal → PinUse → List ℕ
signal_change t s u = if s.need then takes_line s.name (pin_name t u.pin) else move_from t s.name s.home u.pin

-- what the choice changes for the signal of this place
unfoldable pub change_at : ProblemParts → List ℕ → ℕ → List ℕ
change_at p at i = option_map_or (λ (s : Signal). option_map_or (signal_change p.tables s) (use_of p at i) []) (slice_get p.signals i) []

-- ---- all of them, in the order of the variables

unfoldable pub changes : List Home → ProblemParts → List ℕ → List ℕ
changes homes p at =
    source_changes homes (clock_at p.clock at) ++ pll_changes homes (clock_at p.clock at) ++ bus_changes homes (clock_at p.clock at)
    ++ joined (length p.signals) (change_at p at)
