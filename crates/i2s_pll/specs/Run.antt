-- Runs of ops over every list of flags, and what makes the ops of a choice sound.
use Rattle.std.specs.Prelude.{◌≡◌, ℕ, zero, suc, ◌≤◌, List, [], ◌∷◌, length, Bool, true, false, Some}
use Rattle.res_base.specs.Fraction.{Fraction}
use Rattle.res_model.specs.declared.table.Bounds.{Bounds}
use Rattle.i2s_pll.specs.declared.choice.I2s.{I2s}
use Rattle.i2s_pll.specs.declared.op.I2sOp.{I2sOp}
use Rattle.i2s_pll.specs.declared.op.I2sOp.TheVariants as op
use Rattle.i2s_pll.specs.declared.op.I2sStep.{I2sStep}
use Rattle.i2s_pll.specs.declared.op.I2sStep.TheVariants as stepped
use Rattle.i2s_pll.specs.declared.state.State.{State}
use Rattle.i2s_pll.specs.Choices.{i2sclk_of}
use Rattle.i2s_pll.specs.Machine.{IsLegal, flagged, i2sclk_at, reset_state, step_of, word_of}

-- the ops of a choice: its N and R, PLLI2SON, and the await of PLLI2SRDY
abbrev pub writes_of : I2s → List I2sOp
writes_of x = op.Config (word_of x.n x.r) ∷ op.On ∷ op.Await 10000 ∷ []

-- where a run stands
pub data Config : Type 0 where
  Running : (left : List I2sOp) (s : State) → Config
  Done : (s : State) → Config
  TimedOut : (s : State) → Config
  Forbidden : (s : State) → Config

abbrev pub after : I2sOp → List I2sOp → I2sStep × State → Config
after op ops (stepped.Went, s) = Running ops s
after op ops (stepped.Waiting, s) = Running (op ∷ ops) s
after op ops (stepped.Forbidden, s) = Forbidden s
after op ops (stepped.TimedOut, s) = TimedOut s

abbrev pub next : Bool → Config → Config
next comes (Running [] s) = Done s
next comes (Running (op ∷ ops) s) = after op ops (step_of s op comes)
next comes (Done s) = Done s
next comes (TimedOut s) = TimedOut s
next comes (Forbidden s) = Forbidden s

-- the run after some steps. Past the end of the list no flag comes
abbrev pub config_at : ℕ → List Bool → Config → Config
config_at zero flags c = c
config_at (suc n) [] c = config_at n [] (next false c)
config_at (suc n) (comes ∷ flags) c = config_at n flags (next comes c)

abbrev pub IsEnd : Config → Type 0
IsEnd (Running left s) = ⊥
IsEnd (Done s) = Unit {0}
IsEnd (TimedOut s) = Unit {0}
IsEnd (Forbidden s) = Unit {0}

abbrev pub IsDone : Config → Type 0
IsDone (Running left s) = ⊥
IsDone (Done s) = Unit {0}
IsDone (TimedOut s) = ⊥
IsDone (Forbidden s) = ⊥

-- what a sound run shows at each moment, also between the flag and the op
abbrev pub IsFine : (State → Type 0) → (State → Type 0) → Config → Type 0
IsFine legal right (Running [] s) = legal s
IsFine legal right (Running (op ∷ ops) s) = legal s × ((comes : Bool) → legal (flagged comes s))
IsFine legal right (Done s) = legal s × right s
IsFine legal right (TimedOut s) = legal s
IsFine legal right (Forbidden s) = ⊥

abbrev pub AllCome : List Bool → Type 0
AllCome [] = Unit {0}
AllCome (comes ∷ flags) = (comes ≡ true) × AllCome flags

-- at the end of a run PLLI2SRDY is set, and I2SCLK is as the choice has it
pub record IsRight (input : Fraction) (x : I2s) (s : State) : Type 0 where
  pub ready : s.ready ≡ true
  pub clock : i2sclk_at input s ≡ Some (i2sclk_of input x.n x.r)

-- from reset and for every list of flags no op is forbidden, every state is legal, and the run ends: done and right, or timed out.
-- Where the flag comes at each of as many steps as there are ops, it ends done
pub record AreSound (limits : Bounds) (input : Fraction) (x : I2s) (ops : List I2sOp) : Type 0 where
  pub fine : (flags : List Bool) (n : ℕ) → IsFine (IsLegal limits input) (IsRight input x) (config_at n flags (Running ops reset_state))
  pub ends : (flags : List Bool) → (n : ℕ) × IsEnd (config_at n flags (Running ops reset_state))
  pub prompt : (flags : List Bool) → AllCome flags → length ops ≤ length flags → (n : ℕ) × IsDone (config_at n flags (Running ops reset_state))
