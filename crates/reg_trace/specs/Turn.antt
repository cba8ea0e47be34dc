-- Internal: one step of a run that is traced.
use Rattle.std.specs.Prelude.{◌≡◌, ℕ, List, [], ◌++◌, drop, Bool, true, false, ◌&&◌, Result, Ok, Err}
use Rattle.reg_map.specs.Registers.{address}
use Rattle.reg_machine.specs.Legal.{is_legal}
use Rattle.reg_machine.specs.Power.{power_of}
use Rattle.reg_machine.specs.Reset.{View}
use Rattle.reg_machine.specs.Run.{Running, config_at}
use Rattle.reg_machine.specs.Words.{word_of}
use Rattle.reg_machine.specs.declared.op.Answer.{Answer}
use Rattle.reg_machine.specs.declared.op.Op.{Op}
use Rattle.reg_machine.specs.declared.op.Op.TheVariants as op
use Rattle.reg_machine.specs.declared.op.Rule.{Rule}
use Rattle.reg_machine.specs.declared.op.Stepped.{Stepped}
use Rattle.reg_machine.specs.declared.op.Stepped.TheVariants as stepped
use Rattle.reg_machine.specs.declared.op.Timeout.{Timeout}
use Rattle.reg_machine.specs.declared.state.State.{State}
use Rattle.refusal.specs.declared.refusal.Refusal.{Refusal}
use Rattle.refusal.specs.declared.refusal.Refusal.TheVariants.{Fault, OutOfMemory}
use Rattle.reg_trace.specs.Lines.{OpWent, RunForbidden, RunTimedOut, TraceLine, line_text, text_of}
use Rattle.reg_trace.specs.Reading.{most}
use Rattle.reg_trace.specs.Trace.{is_fine, is_over, lines_from, moment, moments, register_of, step_lines}
use Rattle.reg_trace.specs.declared.fault.TraceFault.{TraceFault}
use Rattle.reg_trace.specs.declared.fault.TraceFault.TheVariants as fault
use Rattle.reg_trace.specs.declared.lines.Seen.{Seen}
use Rattle.reg_trace.specs.declared.turn.Effect.{Effect}
use Rattle.reg_trace.specs.declared.turn.Turn.{Turn}
use Rattle.res_model.specs.ClockValues.{source_of}

-- a machine took a step, where the states since the last line so far are fine or not
pub record IsTurn (before : View) (op : Op) (a : Answer) (fine : Bool) (after : View) (turn : Turn) : Type 0 where
  pub table : after.table ≡ before.table
  pub want : after.want ≡ before.want
  pub stepped : turn.stepped ≡ (moment a op before.state).stepped
  pub state : after.state ≡ (moment a op before.state).state
  pub fine_is : turn.fine ≡ (fine && is_fine (is_legal before.table before.want) (moment a op before.state))
  pub legal_is : turn.legal ≡ is_legal after.table after.want after.state

-- what is in effect
abbrev pub effect_of : State → Effect
effect_of s = record { source = source_of s.source; latency = s.latency; power = power_of s }

abbrev pub forbidden_line : Rule → Bool → TraceLine
forbidden_line rule fine = record { said = RunForbidden rule; legal = fine }

-- what is to be said of an access in a state
pub record IsSeen (op : Op) (s : State) (seen : Seen) : Type 0 where
  pub at : seen.at ≡ address (register_of op)
  pub word : seen.word ≡ word_of s (register_of op)
  pub source : seen.source ≡ source_of s.source
  pub latency : seen.latency ≡ s.latency

abbrev pub seen_line : ℕ → Bool → Seen → TraceLine
seen_line number fine seen = record { said = OpWent number seen.at seen.word seen.source seen.latency; legal = fine }

abbrev pub timeout_line : Timeout → Bool → TraceLine
timeout_line name fine = record { said = RunTimedOut name; legal = fine }

-- the text of a step's line, if it has one
abbrev pub seen_text : ℕ → Bool → Seen → Stepped → List ℕ
seen_text number fine seen stepped.Went = line_text (seen_line number fine seen)
seen_text number fine seen stepped.Waiting = []
seen_text number fine seen (stepped.TimedOut name) = line_text (timeout_line name fine)
seen_text number fine seen (stepped.Forbidden rule) = line_text (forbidden_line rule fine)

-- the accesses that are left behind a step of the first
abbrev pub todo_after : Stepped → List Op → List Op
todo_after stepped.Went ops = drop 1 ops
todo_after stepped.Waiting ops = ops
todo_after (stepped.TimedOut name) ops = ops
todo_after (stepped.Forbidden rule) ops = ops

-- whether the state behind an access is legal, where that of the one before it is known
abbrev pub legal_after : Op → Bool → View → Bool
legal_after (op.Write r value) flagged v = is_legal v.table v.want v.state
legal_after (op.Modify r clear set) flagged v = is_legal v.table v.want v.state
legal_after (op.Read r) flagged v = flagged
legal_after (op.Await r mask want polls name) flagged v = flagged

-- a machine took a step, and its line was appended
pub record IsShown (before : View) (op : Op) (a : Answer) (number : ℕ) (fine : Bool) (after : View) (turn : Turn) (old new : List ℕ) : Type 0 where
  pub turn_is : IsTurn before op a fine after turn
  pub text : new ≡ old ++ text_of (step_lines number turn.fine op after.state turn.stepped)

-- the lines of a run from a machine's state, and whether no step is left behind the most
abbrev pub run_lines : View → List Op → List Answer → List TraceLine
run_lines v ops answers = lines_from (is_legal v.table v.want) 1 (is_legal v.table v.want v.state) (moments most answers (Running ops v.state))

abbrev pub run_over : View → List Op → List Answer → Bool
run_over v ops answers = is_over (config_at most answers (Running ops v.state))

-- a run was appended to a text, whole where it has no more steps than the most
abbrev pub Traces : {X : Type 0} → View → List Op → List Answer → List ℕ → List ℕ → Result X (Refusal TraceFault) → Type 0
Traces v ops answers old new (Ok x) = (run_over v ops answers ≡ true) × (new ≡ old ++ text_of (run_lines v ops answers))
Traces v ops answers old new (Err (Fault fault.Long)) = run_over v ops answers ≡ false
Traces v ops answers old new (Err OutOfMemory) = Unit {0}
