-- Bit timings of a CAN bus (RM0090, bxCAN, bit timing).
use Rattle.std.specs.Prelude.{◌≡◌, ℕ, ◌+◌, ◌*◌, ◌-◌, ◌/◌, ◌%◌, ◌^◌, ◌≤◌, ◌==◌, ◌&&◌, List, [], ◌∷◌, Bool, not, nat_lt}
use Rattle.choice_rank.specs.declared.variable.Costs.TheVariants.{AllZero}
use Rattle.choice_rank.specs.declared.variable.VarShape.{VarShape}
use Rattle.can_timing.specs.declared.request.Request.{Request}
use Rattle.can_timing.specs.declared.timing.Timing.{Timing}

-- the ranges of the prescaler and of the two segments
pub record IsTiming (t : Timing) : Type 0 where
  pub brp : (1 ≤ t.brp) × (t.brp ≤ 1024)
  pub bs1 : (1 ≤ t.bs1) × (t.bs1 ≤ 16)
  pub bs2 : (1 ≤ t.bs2) × (t.bs2 ≤ 8)

-- the time quanta of a bit: one for synchronisation, and the two segments
abbrev pub quanta : Timing → ℕ
quanta t = 1 + t.bs1 + t.bs2

-- the periods of the clock in a bit
abbrev pub clocks : Timing → ℕ
clocks t = t.brp * quanta t

-- the clock is the rate times these periods, exactly
abbrev pub has_rate : Request → Timing → Bool
has_rate q t = q.pclk.num == (q.rate * clocks t) * q.pclk.den

-- the sample point, which stands behind the first segment, comes sooner than the tolerance allows; both sides are in
-- per mille of a quantum, and the tolerance stands on the side on which no number is negative
abbrev pub is_early : Request → Timing → Bool
is_early q t = nat_lt (1000 * (1 + t.bs1) + q.tolerance * quanta t) (q.point * quanta t)

-- it comes later
abbrev pub is_late : Request → Timing → Bool
is_late q t = nat_lt ((q.point + q.tolerance) * quanta t) (1000 * (1 + t.bs1))

-- a timing that is asked for
abbrev pub serves : Request → Timing → Bool
serves q t = has_rate q t && (not (is_early q t) && not (is_late q t))

-- a timing as a choice: the upper part of the prescaler less one, its lower part, and each segment less one
abbrev pub variable : ℕ → VarShape
variable size = record { size = size; costs = AllZero }

abbrev pub can_shape : List VarShape
can_shape = variable 2 ∷ variable 512 ∷ variable 16 ∷ variable 8 ∷ []

abbrev pub timing_of : List ℕ → Timing
timing_of (upper ∷ lower ∷ first ∷ second ∷ []) = record { brp = 512 * upper + lower + 1; bs1 = first + 1; bs2 = second + 1 }
timing_of _ = record { brp = 1; bs1 = 1; bs2 = 1 }

-- the register CAN_BTR: each number less one
abbrev pub btr_of : Timing → ℕ
btr_of t = (t.bs2 - 1) * 2 ^ 20 + (t.bs1 - 1) * 2 ^ 16 + (t.brp - 1)

-- each field of a word of CAN_BTR by itself
pub record HoldsTiming (word : ℕ) (t : Timing) : Type 0 where
  pub brp : word % 2 ^ 10 + 1 ≡ t.brp
  pub between : word / 2 ^ 10 % 2 ^ 6 ≡ 0
  pub bs1 : word / 2 ^ 16 % 2 ^ 4 + 1 ≡ t.bs1
  pub bs2 : word / 2 ^ 20 % 2 ^ 3 + 1 ≡ t.bs2
  pub above : word / 2 ^ 23 ≡ 0
