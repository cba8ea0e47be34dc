-- The output reads back: under the same options but no needs it is refused by nothing, and the choice is at home.
use Rattle.std.specs.Prelude.{◌≡◌, ℕ, List, [], ◌∷◌, map, Some, true, Ok, slice_index_or}
use Rattle.ioc_text.specs.Lines.{ioc_of}
use Rattle.ioc_text.specs.declared.line.Line.{Line}
use Rattle.ioc_project.specs.Project.{pin_lines, project_of}
use Rattle.ioc_lines.specs.Again.{HomesMean, without_needs}
use Rattle.ioc_lines.specs.Entries.{entry_on}
use Rattle.ioc_lines.specs.Standing.{PutAll}
use Rattle.problem.specs.ClockValues.{clock_value, nowhere}
use Rattle.problem.specs.Problem.{problem_of}
use Rattle.problem.specs.declared.parts.Part.TheVariants.{Whole}
use Rattle.problem.specs.declared.parts.ProblemParts.{ProblemParts}
use Rattle.res_model.specs.declared.opts.Opts.{Opts}
use Rattle.res_model.specs.declared.project.Project.{Project}
use Rattle.res_model.specs.declared.project.Signal.{Signal}
use Rattle.res_model.specs.declared.table.PinUse.{PinUse}
use Rattle.ioc_write.specs.WriteBack.{number_of, uses_of}
use Rattle.ioc_write.specs.declared.variable.Variable.{Variable}

-- the problem is that of a text
pub record IsOfText (text : List ℕ) (opts : Opts) (p : ProblemParts) : Type 0 where
  pub lines : List Line
  pub project : Project
  pub are_lines : ioc_of text ≡ Ok lines
  pub is_read : project_of p.tables lines opts true ≡ Ok project
  pub is_problem : p ≡ problem_of p.tables project opts Whole

pub record ReadsBack (out : List ℕ) (opts : Opts) (p : ProblemParts) (at : List ℕ) : Type 0 where
  pub lines : List Line
  pub project : Project
  pub are_lines : ioc_of out ≡ Ok lines
  pub is_read : project_of p.tables lines (without_needs opts) true ≡ Ok project
  -- each signal, and behind them each need, has its pin in the choice as its home
  pub names : map (λ (s : Signal). s.name) project.signals ≡ map (λ (s : Signal). s.name) p.signals
  pub homes : map (λ (s : Signal). s.home) project.signals ≡ map (λ (u : PinUse). Some u.pin) (uses_of p at)
  -- and each clock variable that has a key its value
  pub clocks : (v : Variable) → (slice_index_or project.clock (number_of v) nowhere).value ≡ clock_value p.clock at (number_of v)

-- its lines are read without a fault, and the keys of the clock variables mean the values of the choice
pub record IsReadWithClocks (out : List ℕ) (p : ProblemParts) (at : List ℕ) : Type 0 where
  pub lines : List Line
  pub are_lines : ioc_of out ≡ Ok lines
  pub homes : HomesMean p.tables (map entry_on lines) (clock_value p.clock at)

-- the signals with their pins in the choice
abbrev pub places : List Signal → List PinUse → List (ℕ × List ℕ)
places [] us = []
places (s ∷ ss) [] = []
places (s ∷ ss) (u ∷ us) = (u.pin, s.name) ∷ places ss us

-- the lines of its pins put each signal at its pin in the choice
abbrev pub PutsBack : List ℕ → ProblemParts → List ℕ → Type 0
PutsBack out p at = (lines : List Line) → ioc_of out ≡ Ok lines → PutAll p.tables lines (map (λ (l : Line). l.value) (pin_lines lines)) (places p.signals (uses_of p at))
