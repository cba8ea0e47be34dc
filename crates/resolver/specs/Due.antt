-- The status and the text that are due for words and the inputs that they name, where nothing of the outside fails.
use Rattle.std.specs.Prelude.{◌≡◌, ◌⊎◌, ℕ, List, [], ◌++◌, map, Bool, true, false, Result, Ok, Err, MatchResult, MatchOption, codes, slice_index_or}
use Rattle.answers.specs.Said.{Says, answered}
use Rattle.answers.specs.declared.answer.Answer.{Answer}
use Rattle.answers.specs.declared.answer.Status.TheVariants.{Done, Usage, TooLong}
use Rattle.board_fit.specs.Board.{OfBoard}
use Rattle.board_fit.specs.Parts.{pins_of, whole_of}
use Rattle.call_io.specs.Inputs.{Input, first_long}
use Rattle.can_timing.specs.Texts as can
use Rattle.can_timing.specs.declared.request.Request.{Request}
use Rattle.case_rules.specs.CaseProblem.{case_problem}
use Rattle.cmd_words.specs.Asked.{inputs_of, may_wait}
use Rattle.cmd_words.specs.declared.command.Command.{Command}
use Rattle.cmd_words.specs.declared.command.Command.TheVariants.{Pins, Tree, Resolve, Check, Case, Can, I2s, Dma, Ioc, Board, Explain, Trace}
use Rattle.cmd_words.specs.declared.fault.UsageFault.{UsageFault}
use Rattle.explain.specs.Due.{OfExplain}
use Rattle.home_target.specs.Homes.{home_target}
use Rattle.i2s_pll.specs.Due.{OfI2s}
use Rattle.ioc_answer.specs.Owed.{OfIoc}
use Rattle.problem.specs.Problem.{problem_of}
use Rattle.problem.specs.declared.parts.Part.TheVariants.{PinsOnly, Whole}
use Rattle.project_reading.specs.Reading.{project_from}
use Rattle.res_model.specs.Clock.{facts_of}
use Rattle.res_model.specs.declared.opts.Opts.{Opts}
use Rattle.res_model.specs.declared.project.Project.{Project}
use Rattle.res_model.specs.declared.table.TableParts.{TableParts}
use Rattle.resolver.specs.HomeTree.{fixed, home_choice, home_nodes, home_text, no_options}
use Rattle.resolver.specs.Refusals.{words_refusal}
use Rattle.resolver.specs.Requests.{OfRequestsIn}
use Rattle.solver.specs.Owed.{OfCase, OfPins, OfProblem, OfProof, OfWhole}
use Rattle.trace_answer.specs.Due.{OfTrace}

-- the bytes of the input at this place, from 0
abbrev pub input_at : List (List ℕ) → ℕ → List ℕ
input_at files place = slice_index_or files place []

-- what a command does with a table and a project
abbrev pub Task : Type 1
Task = TableParts → Project → Answer → Type 0

-- a task over the table and the project that the first two inputs say
abbrev pub OverProject : Opts → Bool → Task → List (List ℕ) → Answer → Type 0
OverProject opts clocks task files a = MatchResult (project_from opts clocks (input_at files 0) (input_at files 1)) (λ read. task read.0 read.1 a) (λ refusal. a ≡ refusal)

-- `pins`: the least placement of the signals
abbrev pub PinsTask : Opts → Task
PinsTask opts t p a = OfProblem (problem_of t p opts PinsOnly) (OfPins (problem_of t p opts PinsOnly)) a

-- `tree`: the clock tree of the homes, which are fixed
abbrev pub TreeTask : Opts → Task
TreeTask opts t p a = a ≡ answered Done (home_text t p opts)

-- `resolve`: the least choice of pins and clocks, or the refutation of all
abbrev pub ResolveTask : Opts → Bool → Task
ResolveTask opts proof t p a = OfProblem (problem_of t p opts Whole) (OfWhole proof (problem_of t p opts Whole)) a

-- `check`: whether the text of a refutation is accepted
abbrev pub CheckTask : Opts → List ℕ → Task
CheckTask opts text t p a = OfProblem (problem_of t p opts Whole) (OfProof text (problem_of t p opts Whole)) a

-- `board`: the least choice of pins and clocks over ranks of any size, or the refutation of all
abbrev pub BoardTask : Opts → Task
BoardTask opts t p a = OfBoard (pins_of t p opts) (whole_of t p opts) a

-- `ioc`: the text of the project with the least choice as its homes
abbrev pub IocTask : Opts → List ℕ → Task
IocTask opts text t p a = OfProblem (problem_of t p opts Whole) (OfIoc text (problem_of t p opts Whole)) a

-- `explain`: what the least choice changes, or why there is none and what helps
abbrev pub ExplainTask : Opts → List ℕ → Task
ExplainTask opts text t p a = OfExplain t p text opts a

-- what a CAN bus asks for, on PCLK1 of the homes
abbrev pub bus : TableParts → Project → ℕ → ℕ → ℕ → Request
bus t p rate point tolerance = record { pclk = (home_nodes t p no_options).pclk1; rate = rate; point = point; tolerance = tolerance }

-- `can`: the least bit timing that serves a bus, or the refutation of all
abbrev pub CanTask : ℕ → ℕ → ℕ → Task
CanTask rate point tolerance t p a = can.IsDue (bus t p rate point tolerance) a

-- `i2s`: the PLLI2S of least error for a sample rate, on the homes, or that there is none
abbrev pub I2sTask : ℕ → Task
I2sTask rate t p a = OfI2s t (facts_of t p no_options) (home_choice p.clock) rate a

-- `trace`: what a C text shows on the machine, for flag answers, where the homes are wanted
abbrev pub TraceTask : Opts → List ℕ → List ℕ → Task
TraceTask opts c answers t p a = OfTrace t (home_target t p opts) c answers a

-- what a command owes for the bytes of its inputs. `case` has none: its problem is that of the number
abbrev pub OfBytes : Command → List (List ℕ) → Answer → Type 0
OfBytes (Pins tables project opts) files a = OverProject opts false (PinsTask opts) files a
OfBytes (Tree tables project opts) files a = OverProject (fixed opts) true (TreeTask (fixed opts)) files a
OfBytes (Resolve tables project opts workers proof) files a = OverProject opts true (ResolveTask opts proof) files a
OfBytes (Check tables project proof opts) files a = OverProject opts true (CheckTask opts (input_at files 2)) files a
OfBytes (Case number workers) files a = OfCase number (case_problem number) a
OfBytes (Can tables project rate point tolerance) files a = OverProject no_options true (CanTask rate point tolerance) files a
OfBytes (I2s tables project rate) files a = OverProject no_options true (I2sTask rate) files a
OfBytes (Ioc tables project opts workers) files a = OverProject opts true (IocTask opts (input_at files 1)) files a
OfBytes (Explain tables project opts) files a = OverProject opts true (ExplainTask opts (input_at files 1)) files a
OfBytes (Board tables project opts) files a = OverProject opts true (BoardTask opts) files a
OfBytes (Trace tables project c answers opts) files a = OverProject (fixed opts) true (TraceTask (fixed opts) (input_at files 2) (input_at files 3)) files a
OfBytes (Dma tables requests workers) files a = OfRequestsIn requests (input_at files 0) a

-- each input is read whole before any is looked at
abbrev pub OfCommand : Command → List Input → Answer → Type 0
OfCommand command inputs a = MatchOption (first_long inputs) (OfBytes command (map (λ (i : Input). i.bytes) inputs) a) (λ name. Says a TooLong (codes "too long: " ++ name))

-- what is due for a command, or for words that have no reading
abbrev pub Due : Result Command UsageFault → List Input → Answer → Type 0
Due (Ok command) inputs a = OfCommand command inputs a
Due (Err fault) inputs a = Says a Usage (words_refusal fault)

-- the inputs that words ask for; words that have no reading ask for none
abbrev pub names_of : Result Command UsageFault → List (List ℕ)
names_of (Ok command) = inputs_of command
names_of (Err fault) = []

-- words that read as a command that may start threads
abbrev pub waits : Result Command UsageFault → Bool
waits (Ok command) = may_wait command
waits (Err fault) = false

-- status 2 is that of words that have no reading, and of no others; such words are answered by it, or the text could not be
-- written (8), or there was no memory (9)
pub record IsUsage (asked : Result Command UsageFault) (number : ℕ) : Type 0 where
  pub only : number ≡ 2 → (fault : UsageFault) × (asked ≡ Err fault)
  pub always : (fault : UsageFault) → asked ≡ Err fault → (number ≡ 2) ⊎ ((number ≡ 8) ⊎ (number ≡ 9))
