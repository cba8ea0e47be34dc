-- What a run shows, step by step: a line for each access that is done, and one for how the run ended.
use Rattle.std.specs.Prelude.{◌≡◌, ℕ, zero, suc, ◌+◌, List, [], ◌∷◌, ◌++◌, Bool, true, false, ◌&&◌, if◌then◌else◌, Result, Ok, Err}
use Rattle.reg_map.specs.Registers.{address}
use Rattle.reg_map.specs.declared.register.Reg.{Reg}
use Rattle.res_model.specs.declared.table.TableParts.{TableParts}
use Rattle.reg_machine.specs.Legal.{is_legal}
use Rattle.reg_machine.specs.Reset.{reset_of}
use Rattle.reg_machine.specs.Run.{Config, Running, Done, TimedOut, Forbidden, config_at, next, silent}
use Rattle.reg_machine.specs.Step.{flags, step_of}
use Rattle.reg_machine.specs.Words.{word_of}
use Rattle.reg_machine.specs.declared.op.Answer.{Answer}
use Rattle.reg_machine.specs.declared.op.Op.{Op}
use Rattle.reg_machine.specs.declared.op.Op.TheVariants as op
use Rattle.reg_machine.specs.declared.op.Stepped.{Stepped}
use Rattle.reg_machine.specs.declared.op.Stepped.TheVariants as stepped
use Rattle.reg_machine.specs.declared.state.State.{State}
use Rattle.reg_machine.specs.declared.state.Target.{Target}
use Rattle.reg_trace.specs.Lines.{OpWent, RunDone, RunForbidden, RunTimedOut, TraceLine, text_of}
use Rattle.reg_trace.specs.Reading.{most}
use Rattle.reg_trace.specs.declared.fault.TraceFault.{TraceFault}
use Rattle.reg_trace.specs.declared.fault.TraceFault.TheVariants as fault
use Rattle.res_model.specs.ClockValues.{source_of}

-- ---- the steps of a run

-- a step: its access, the state behind its flags, what it did, and the state behind it
pub record Moment : Type 0 where
  pub op : Op
  pub flagged : State
  pub stepped : Stepped
  pub state : State

abbrev pub moment : Answer → Op → State → Moment
moment a op s = record { op = op; flagged = flags a s; stepped = (step_of s op a).0; state = (step_of s op a).1 }

-- the step that a run takes next, where it goes on
abbrev pub moment_of : Answer → Config → List Moment
moment_of a (Running [] s) = []
moment_of a (Running (op ∷ ops) s) = moment a op s ∷ []
moment_of a (Done s) = []
moment_of a (TimedOut name s) = []
moment_of a (Forbidden rule s) = []

-- the steps of a run, at most so many. Past the end of the list no flag comes
abbrev pub moments : ℕ → List Answer → Config → List Moment
moments zero answers c = []
moments (suc n) [] c = moment_of silent c ++ moments n [] (next silent c)
moments (suc n) (a ∷ answers) c = moment_of a c ++ moments n answers (next a c)

-- no step is left
abbrev pub is_over : Config → Bool
is_over (Running [] s) = true
is_over (Running (op ∷ ops) s) = false
is_over (Done s) = true
is_over (TimedOut name s) = true
is_over (Forbidden rule s) = true

-- ---- lines

abbrev pub register_of : Op → Reg
register_of (op.Write r value) = r
register_of (op.Modify r clear set) = r
register_of (op.Read r) = r
register_of (op.Await r mask want polls name) = r

-- what is said of an access that was done, and of the state behind it
abbrev pub went_line : ℕ → Bool → Op → State → TraceLine
went_line number fine op s = record { said = OpWent number (address (register_of op)) (word_of s (register_of op)) (source_of s.source) s.latency; legal = fine }

-- the line of a step, if it has one
abbrev pub step_lines : ℕ → Bool → Op → State → Stepped → List TraceLine
step_lines number fine op s stepped.Went = went_line number fine op s ∷ []
step_lines number fine op s stepped.Waiting = []
step_lines number fine op s (stepped.TimedOut name) = record { said = RunTimedOut name; legal = fine } ∷ []
step_lines number fine op s (stepped.Forbidden rule) = record { said = RunForbidden rule; legal = fine } ∷ []

-- the run goes on behind a step
abbrev pub goes_on : Stepped → Bool
goes_on stepped.Went = true
goes_on stepped.Waiting = true
goes_on (stepped.TimedOut name) = false
goes_on (stepped.Forbidden rule) = false

-- the number of the next line of an access
abbrev pub number_after : Stepped → ℕ → ℕ
number_after stepped.Went number = number + 1
number_after stepped.Waiting number = number
number_after (stepped.TimedOut name) number = number
number_after (stepped.Forbidden rule) number = number

-- each state since the last line is legal: behind a line there is none yet
abbrev pub fine_after : Stepped → Bool → Bool
fine_after stepped.Went fine = true
fine_after stepped.Waiting fine = fine
fine_after (stepped.TimedOut name) fine = fine
fine_after (stepped.Forbidden rule) fine = fine

-- the state behind the flags of a step, and the one behind the step, are legal
abbrev pub is_fine : (State → Bool) → Moment → Bool
is_fine legal m = legal m.flagged && legal m.state

-- the lines of the steps that are left, where the next access has this number, and each state since the last line so far is
-- legal or not
abbrev pub lines_from : (State → Bool) → ℕ → Bool → List Moment → List TraceLine
lines_from legal number fine [] = record { said = RunDone; legal = fine } ∷ []
lines_from legal number fine (m ∷ ms) =
    step_lines number (fine && is_fine legal m) m.op m.state m.stepped
    ++ (if goes_on m.stepped then lines_from legal (number_after m.stepped number) (fine_after m.stepped (fine && is_fine legal m)) ms else [])

-- the lines of a run from reset. The state at reset is one of those before the first line
unfoldable pub trace_lines : TableParts → Target → List Op → List Answer → List TraceLine
trace_lines t want ops answers =
    lines_from (is_legal t want) 1 (is_legal t want (reset_of t want)) (moments most answers (Running ops (reset_of t want)))

-- the text of a run from reset, where it has no more steps than the most
unfoldable pub trace_of : TableParts → Target → List Op → List Answer → Result (List ℕ) TraceFault
trace_of t want ops answers =
    if is_over (config_at most answers (Running ops (reset_of t want))) then Ok (text_of (trace_lines t want ops answers)) else Err fault.Long
