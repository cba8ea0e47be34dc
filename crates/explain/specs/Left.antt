-- What is left where a thing is given up, and what its least choice costs.
use Rattle.std.specs.Prelude.{◌≡◌, ℕ, ◌-◌, ◌++◌, List, Option, Some, None, Ok, Err, drop, take, true}
use Rattle.choice_rank.specs.Choices.{IsNarrow, cost_of}
use Rattle.choice_rank.specs.Least.{IsLeast, NoneLegal}
use Rattle.ioc_project.specs.Project.{project_of}
use Rattle.ioc_project.specs.declared.fault.ProjectFault.{ProjectFault}
use Rattle.ioc_text.specs.declared.line.Line.{Line}
use Rattle.ioc_text.specs.Without.{without}
use Rattle.problem.specs.Meets.{meets}
use Rattle.problem.specs.Problem.{problem_of}
use Rattle.problem.specs.declared.parts.Part.TheVariants.{Whole}
use Rattle.problem.specs.declared.parts.ProblemParts.{ProblemParts}
use Rattle.res_model.specs.declared.opts.Free.TheVariants.{All}
use Rattle.res_model.specs.declared.opts.Opts.{Opts}
use Rattle.res_model.specs.declared.project.Project.{Project}
use Rattle.res_model.specs.declared.table.TableParts.{TableParts}
use Rattle.explain.specs.declared.kinds.Thing.{Thing}
use Rattle.explain.specs.declared.kinds.Thing.TheVariants.{Need, Hclk, Pclk1, Pclk2, Freed, Keep, Lock, Pin}

-- ---- what is left

-- the options without a need, by its number from 1, or without a wish; and what is free is all
abbrev pub opts_left : Opts → Thing → Opts
opts_left opts (Need number) = record opts { needs = take (number - 1) opts.needs ++ drop number opts.needs }
opts_left opts Hclk = record opts { hclk = None }
opts_left opts Pclk1 = record opts { pclk1 = None }
opts_left opts Pclk2 = record opts { pclk2 = None }
opts_left opts Freed = record opts { free = All }
opts_left opts (Keep line) = opts
opts_left opts (Lock i line) = opts
opts_left opts (Pin i line) = opts

-- the line that is left out
abbrev pub line_of : Thing → Option ℕ
line_of (Need number) = None
line_of Hclk = None
line_of Pclk1 = None
line_of Pclk2 = None
line_of Freed = None
line_of (Keep line) = Some line
line_of (Lock i line) = Some line
line_of (Pin i line) = Some line

abbrev pub without_any : Option ℕ → List Line → List Line
without_any None ioc = ioc
without_any (Some line) ioc = without line ioc

abbrev pub lines_left : List Line → Thing → List Line
lines_left ioc thing = without_any (line_of thing) ioc

-- ---- what it comes to

-- the cost of the least choice of a problem, or that none meets the limits
abbrev pub IsLeastCost : ProblemParts → Option ℕ → Type 0
IsLeastCost p None = NoneLegal p.shape (meets p)
IsLeastCost p (Some cost) = (c : List ℕ) × IsLeast p.shape (meets p) c × (cost_of p.shape c ≡ cost)

-- a problem whose ranks would not fit is not searched
pub data HasCost (p : ProblemParts) (cost : Option ℕ) : Type 0 where
  wide : ¬ IsNarrow p.shape → cost ≡ None → HasCost p cost
  narrow : IsNarrow p.shape → IsLeastCost p cost → HasCost p cost

-- what lines and options come to under a table: the cost of the least choice of pins and clocks, where they are read, are
-- not too wide and have one
pub data ComesTo (t : TableParts) (ioc : List Line) (opts : Opts) (cost : Option ℕ) : Type 0 where
  refused : (fault : ProjectFault) → project_of t ioc opts true ≡ Err fault → cost ≡ None → ComesTo t ioc opts cost
  read : (p : Project) → project_of t ioc opts true ≡ Ok p → HasCost (problem_of t p opts Whole) cost → ComesTo t ioc opts cost
