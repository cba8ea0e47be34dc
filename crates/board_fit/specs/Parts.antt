-- A board in two parts: the problem of its pins, and for a placement of the pins the problem of its clocks.
use Rattle.std.specs.Prelude.{◌≡◌, ℕ, zero, suc, ◌≤◌, ◌<◌, ◌^◌, ◌++◌, List, [], ◌∷◌, length}
use Rattle.res_base.specs.Lists.{Each}
use Rattle.choice_rank.specs.declared.variable.Costs.TheVariants.{HomeFirst}
use Rattle.choice_rank.specs.declared.variable.VarShape.{VarShape}
use Rattle.problem.specs.Problem.{AreHomesDue, problem_of}
use Rattle.problem.specs.declared.parts.Part.TheVariants.{PinsOnly, Whole}
use Rattle.problem.specs.declared.parts.ProblemParts.{ProblemParts}
use Rattle.report.specs.Placed.{uses_of}
use Rattle.res_model.specs.Placed.{IsPlaced}
use Rattle.res_model.specs.Valid.{IsValid}
use Rattle.res_model.specs.declared.opts.Opts.{Opts}
use Rattle.res_model.specs.declared.project.Project.{Project}
use Rattle.res_model.specs.declared.table.PinUse.{PinUse}
use Rattle.res_model.specs.declared.table.TableParts.{TableParts}
use Rattle.board_fit.specs.Fixed.{fixed}

-- the board: ten clock variables, and then the signals
abbrev pub whole_of : TableParts → Project → Opts → ProblemParts
whole_of t p opts = problem_of t p opts Whole

-- its part of the pins: the signals alone
abbrev pub pins_of : TableParts → Project → Opts → ProblemParts
pins_of t p opts = problem_of t p opts PinsOnly

-- its part of the clocks beside a placement: the whole problem of the project in which each signal stays where the placement has it
abbrev pub clocks_of : TableParts → Project → Opts → List ℕ → ProblemParts
clocks_of t p opts at = problem_of t (fixed p (uses_of (pins_of t p opts) at)) opts Whole

-- a choice of the board: one of the clock variables, and behind it one of the pins
abbrev pub joined : List ℕ → List ℕ → List ℕ
joined clocks at = clocks ++ at

-- the first position for each of so many signals
abbrev pub firsts : ℕ → List ℕ
firsts zero = []
firsts (suc n) = 0 ∷ firsts n

-- a choice of the part of the clocks: its signals have one position each
abbrev pub alone : Project → List ℕ → List ℕ
alone p clocks = joined clocks (firsts (length p.signals))

-- the variable of a signal that stays at home, and its values
abbrev pub home_alone : VarShape
home_alone = record { size = 1; costs = HomeFirst }

abbrev pub alone_variables : ℕ → List VarShape
alone_variables zero = []
alone_variables (suc n) = home_alone ∷ alone_variables n

-- those of all signals of a project
abbrev pub alones : Project → List VarShape
alones p = alone_variables (length p.signals)

abbrev pub one_value : PinUse → List PinUse
one_value u = u ∷ []

-- a table and a project of which a whole problem can be made
pub record IsBoard (t : TableParts) (p : Project) (opts : Opts) : Type 0 where
  pub valid : IsValid t
  pub ten : length p.clock ≡ 10
  pub few : length p.signals ≤ 160
  pub placed : Each (IsPlaced t) p.signals
  pub hertz : p.hse_hz < 2 ^ 32
  pub homes : AreHomesDue t p opts Whole
