-- Runs over every list of answers, and what makes a list of ops sound.
use Rattle.std.specs.Prelude.{◌≡◌, ℕ, zero, suc, ◌≤◌, List, [], ◌∷◌, length, true, false}
use Rattle.reg_machine.specs.declared.op.Timeout.{Timeout}
use Rattle.reg_machine.specs.declared.op.Op.{Op}
use Rattle.reg_machine.specs.declared.op.Answer.{Answer}
use Rattle.reg_machine.specs.declared.op.Rule.{Rule}
use Rattle.reg_machine.specs.declared.op.Stepped.{Stepped}
use Rattle.reg_machine.specs.declared.op.Stepped.TheVariants as stepped
use Rattle.reg_machine.specs.declared.state.State.{State}
use Rattle.reg_machine.specs.Step.{step_of, flags}

-- where a run stands
pub data Config : Type 0 where
  Running : (left : List Op) (s : State) → Config
  Done : (s : State) → Config
  TimedOut : (name : Timeout) (s : State) → Config
  Forbidden : (rule : Rule) (s : State) → Config

abbrev pub after : Op → List Op → Stepped × State → Config
after op ops (stepped.Went, s) = Running ops s
after op ops (stepped.Waiting, s) = Running (op ∷ ops) s
after op ops (stepped.Forbidden rule, s) = Forbidden rule s
after op ops (stepped.TimedOut name, s) = TimedOut name s

abbrev pub next : Answer → Config → Config
next a (Running [] s) = Done s
next a (Running (op ∷ ops) s) = after op ops (step_of s op a)
next a (Done s) = Done s
next a (TimedOut name s) = TimedOut name s
next a (Forbidden rule s) = Forbidden rule s

-- no flag comes
abbrev pub silent : Answer
silent = record { hse = false; pll = false; latency = false; switch = false; over = false; over_switch = false }

-- the run after n steps. Past the end of the list no flag comes
abbrev pub config_at : ℕ → List Answer → Config → Config
config_at zero answers c = c
config_at (suc n) [] c = config_at n [] (next silent c)
config_at (suc n) (a ∷ answers) c = config_at n answers (next a c)

abbrev pub IsEnd : Config → Type 0
IsEnd (Running left s) = ⊥
IsEnd (Done s) = Unit {0}
IsEnd (TimedOut name s) = Unit {0}
IsEnd (Forbidden rule s) = Unit {0}

-- what a legal run shows at each moment, also between the flags and the op
abbrev pub IsFine : (State → Type 0) → (State → Type 0) → Config → Type 0
IsFine legal right (Running [] s) = legal s
IsFine legal right (Running (op ∷ ops) s) = legal s × ((a : Answer) → legal (flags a s))
IsFine legal right (Done s) = legal s × right s
IsFine legal right (TimedOut name s) = legal s
IsFine legal right (Forbidden rule s) = ⊥

abbrev pub AllCome : List Answer → Type 0
AllCome [] = Unit {0}
AllCome (a ∷ answers) = (a.hse ≡ true) × (a.pll ≡ true) × (a.latency ≡ true) × (a.switch ≡ true) × (a.over ≡ true) × (a.over_switch ≡ true) × AllCome answers

abbrev pub IsDone : Config → Type 0
IsDone (Running left s) = ⊥
IsDone (Done s) = Unit {0}
IsDone (TimedOut name s) = ⊥
IsDone (Forbidden rule s) = ⊥

-- from a state, for every list of answers
pub record Sound (legal right : State → Type 0) (ops : List Op) (s : State) : Type 0 where
  pub fine : (answers : List Answer) (n : ℕ) → IsFine legal right (config_at n answers (Running ops s))
  pub ends : (answers : List Answer) → (n : ℕ) × IsEnd (config_at n answers (Running ops s))
  pub prompt : (answers : List Answer) → AllCome answers → length ops ≤ length answers → IsDone (config_at (suc (length ops)) answers (Running ops s))
