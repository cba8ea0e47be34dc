-- What refutes a box of bit timings, and the verdict on it.
use Rattle.std.specs.Prelude.{ℕ, ◌*◌, ◌==◌, ◌&&◌, ◌||◌, List, Bool, true, false, not, if◌then◌else◌}
use Rattle.res_base.specs.Fraction.{at_most, whole}
use Rattle.box_split.specs.Boxes.{Run, is_single, lows, highs}
use Rattle.search_api.specs.declared.verdict.Reason.{Reason}
use Rattle.search_api.specs.declared.verdict.Reason.TheVariants.{Hall, Limit}
use Rattle.search_api.specs.declared.verdict.Verdict.{Verdict}
use Rattle.search_api.specs.declared.verdict.Verdict.TheVariants.{Bad, Legal, Open}
use Rattle.search_api.specs.Meaning.{Meaning}
use Rattle.can_timing.specs.declared.request.Request.{Request}
use Rattle.can_timing.specs.declared.timing.Timing.{Timing}
use Rattle.can_timing.specs.Timings.{clocks, is_early, is_late, serves, can_shape, timing_of}

-- the clock lies outside the rate times the periods from one timing's to another's
abbrev pub is_outside : Request → Timing → Timing → Bool
is_outside q least greatest = not (at_most (whole (q.rate * clocks least)) q.pclk && at_most q.pclk (whole (q.rate * clocks greatest)))

-- the least prescaler and quanta stand at the lowest positions, the greatest at the highest
abbrev pub refutes_rate : Request → List Run → Bool
refutes_rate q box = is_outside q (timing_of (lows box)) (timing_of (highs box))

-- the first segment of one timing with the second of another
abbrev pub mixed : Timing → Timing → Timing
mixed a b = record { brp = a.brp; bs1 = a.bs1; bs2 = b.bs2 }

-- the sample point is too early even with the longest first segment and the shortest second one, or too late even with
-- the shortest first segment and the longest second one
abbrev pub misses_point : Request → Timing → Timing → Bool
misses_point q least greatest = is_early q (mixed greatest least) || is_late q (mixed least greatest)

abbrev pub refutes_point : Request → List Run → Bool
refutes_point q box = misses_point q (timing_of (lows box)) (timing_of (highs box))

-- limit 3 is the rate, and limit 4 the sample point
abbrev pub refutes : Request → Reason → List Run → Bool
refutes q (Hall class vars) box = false
refutes q (Limit k) box = if k == 3 then refutes_rate q box else (if k == 4 then refutes_point q box else false)

-- the rate is asked first
abbrev pub verdict_from : Bool → Bool → Bool → Verdict
verdict_from true point single = Bad (Limit 3)
verdict_from false true single = Bad (Limit 4)
verdict_from false false true = Legal
verdict_from false false false = Open

abbrev pub can_verdict : Request → List Run → Verdict
can_verdict q box = verdict_from (refutes_rate q box) (refutes_point q box) (is_single box)

abbrev pub legal : Request → List ℕ → Bool
legal q choice = serves q (timing_of choice)

abbrev pub can_meaning : Request → Meaning
can_meaning q = record { shape = can_shape; legal = legal q; refutes = refutes q; verdict = can_verdict q }
