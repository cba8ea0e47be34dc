-- The registers of the PLLI2S (RM0090, RCC_CR and RCC_PLLI2SCFGR): what a write or an await does to them, which of them are
-- forbidden, and which states are legal. That the source of the PLLs is ready is taken for granted.
use Rattle.std.specs.Prelude.{◌≡◌, ℕ, ◌+◌, ◌*◌, ◌^◌, ◌<◌, Bool, true, false, not, nat_le, nat_lt, ◌==◌, ◌&&◌, ◌||◌, if◌then◌else◌, IsTrue, Option}
use Rattle.res_base.specs.Fraction.{Fraction}
use Rattle.res_model.specs.Clock.{vco_in_of, where_used}
use Rattle.res_model.specs.declared.clock.ClockChoice.{ClockChoice}
use Rattle.res_model.specs.declared.clock.Facts.{Facts}
use Rattle.res_model.specs.declared.table.Bounds.{Bounds}
use Rattle.res_model.specs.declared.table.TableParts.{TableParts}
use Rattle.reg_map.specs.Fields.{field_of}
use Rattle.i2s_pll.specs.declared.op.I2sOp.{I2sOp}
use Rattle.i2s_pll.specs.declared.op.I2sOp.TheVariants as op
use Rattle.i2s_pll.specs.declared.op.I2sStep.{I2sStep}
use Rattle.i2s_pll.specs.declared.op.I2sStep.TheVariants as stepped
use Rattle.i2s_pll.specs.declared.state.State.{State}
use Rattle.i2s_pll.specs.Choices.{KeepsBounds, i2sclk_of}

-- ---- RCC_PLLI2SCFGR: N in bits 14 to 6, and R in bits 30 to 28

abbrev pub n_of : ℕ → ℕ
n_of word = field_of 6 9 word

abbrev pub r_of : ℕ → ℕ
r_of word = field_of 28 3 word

abbrev pub word_of : ℕ → ℕ → ℕ
word_of n r = r * 2 ^ 28 + n * 2 ^ 6

-- N and R are such as the PLLI2S takes, and no bit is set beside them
abbrev pub is_fit : ℕ → Bool
is_fit word = nat_le 50 (n_of word) && (nat_le (n_of word) 432 && (nat_le 2 (r_of word) && (word == word_of (n_of word) (r_of word))))

-- ---- one step

-- the flag PLLI2SRDY comes first, where the PLLI2S is on
abbrev pub flagged : Bool → State → State
flagged comes s = record s { ready = s.ready || (comes && s.on) }

-- forbidden are RCC_PLLI2SCFGR written while the PLLI2S is on or with a word that is not fit, and an await that polls never or
-- while the PLLI2S is off
abbrev pub is_forbidden : State → I2sOp → Bool
is_forbidden s (op.Config word) = s.on || not (is_fit word)
is_forbidden s op.On = false
is_forbidden s (op.Await polls) = (polls == 0) || not s.on

-- the op is done: the next await begins at no polls
abbrev pub went : State → I2sStep × State
went s = (stepped.Went, record s { polls = 0 })

-- an await reads PLLI2SRDY once
abbrev pub poll : State → ℕ → I2sStep × State
poll s polls =
    if s.ready then went s
    else (if nat_lt (s.polls + 1) polls then (stepped.Waiting, record s { polls = s.polls + 1 }) else (stepped.TimedOut, record s { polls = 0 }))

abbrev pub done : State → I2sOp → I2sStep × State
done s (op.Config word) = went (record s { config = word })
done s op.On = went (record s { on = true })
done s (op.Await polls) = poll s polls

-- an op that is forbidden changes nothing
abbrev pub step_of : State → I2sOp → Bool → I2sStep × State
step_of s op comes = if is_forbidden (flagged comes s) op then (stepped.Forbidden, flagged comes s) else done (flagged comes s) op

-- ---- states

-- N is 192 and R is 2, and the PLLI2S is off
abbrev pub reset_state : State
reset_state = record { config = 0x20003000; on = false; ready = false; polls = 0 }

-- where the PLLI2S is on, its clocks keep their limits
abbrev pub IsLegal : Bounds → Fraction → State → Type 0
IsLegal limits input s = IsTrue s.on → KeepsBounds limits input (n_of s.config) (r_of s.config)

-- I2SCLK, where the PLLI2S is on
abbrev pub i2sclk_at : Fraction → State → Option Fraction
i2sclk_at input s = where_used s.on (i2sclk_of input (n_of s.config) (r_of s.config))

-- ---- the machine

-- what contracts see of it: the limits of its table, the input of the PLLI2S, and the state
pub record View : Type 0 where
  pub limits : Bounds
  pub input : Fraction
  pub state : State

abbrev pub fresh : TableParts → Facts → ClockChoice → View
fresh t f home = record { limits = t.limits; input = vco_in_of f home; state = reset_state }

-- what every machine keeps of its state
pub record IsStored (s : State) : Type 0 where
  pub fit : is_fit s.config ≡ true
  pub word : s.config < 2 ^ 32
  pub polls : s.polls < 2 ^ 32
