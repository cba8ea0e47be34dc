-- Choices that leave each signal at its home.
use Rattle.std.specs.Prelude.{◌≡◌, ℕ, List, Some, slice_get}
use Rattle.home_target.specs.Homes.{home_use}
use Rattle.problem.specs.Meets.{use_of}
use Rattle.problem.specs.Problem.{problem_of}
use Rattle.problem.specs.declared.parts.Part.TheVariants.{Whole}
use Rattle.problem.specs.declared.parts.ProblemParts.{ProblemParts}
use Rattle.res_model.specs.declared.opts.Opts.{Opts}
use Rattle.res_model.specs.declared.project.Project.{Project}
use Rattle.res_model.specs.declared.project.Signal.{Signal}
use Rattle.res_model.specs.declared.table.PinUse.{PinUse}
use Rattle.res_model.specs.declared.table.TableParts.{TableParts}

-- the problem of signals and clocks
abbrev pub whole : TableParts → Project → Opts → ProblemParts
whole t p opts = problem_of t p opts Whole

-- the signal of this number makes the use of its home
pub record IsAtHome (q : ProblemParts) (at : List ℕ) (k : ℕ) (s : Signal) : Type 0 where
  pub made : PinUse
  pub chosen : use_of q at k ≡ Some made
  pub home : home_use q.tables s ≡ Some made

abbrev pub AreAtHome : ProblemParts → List ℕ → Type 0
AreAtHome q at = (k : ℕ) (s : Signal) → slice_get q.signals k ≡ Some s → IsAtHome q at k s
