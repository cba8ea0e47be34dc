-- What refutes a box of choices of rows, and the verdict on it.
use Rattle.std.specs.Prelude.{ℕ, zero, suc, ◌+◌, ◌-◌, ◌*◌, ◌≤◌, ◌==◌, ◌&&◌, List, [], ◌∷◌, length, Bool, true, false, not, nat_lt, Option, Some, None, slice_range}
use Rattle.std.specs.List.{list_any}
use Rattle.res_base.specs.Lists.{Each}
use Rattle.res_base.specs.Sums.{one_if, sum_below}
use Rattle.res_base.specs.VarSet.{in_set}
use Rattle.res_base.specs.declared.var_set.VarSet.{VarSet}
use Rattle.box_split.specs.Boxes.{Run, is_single}
use Rattle.pin_match.specs.Hall.{any_below, is_wanted}
use Rattle.pin_match.specs.Largest.{hall_of}
use Rattle.search_api.specs.Meaning.{Meaning}
use Rattle.search_api.specs.declared.verdict.Class.TheVariants.{Exti, Pins}
use Rattle.search_api.specs.declared.verdict.Reason.{Reason}
use Rattle.search_api.specs.declared.verdict.Reason.TheVariants.{Hall, Limit}
use Rattle.search_api.specs.declared.verdict.Verdict.{Verdict}
use Rattle.search_api.specs.declared.verdict.Verdict.TheVariants.{Bad, Legal, Open}
use Rattle.dma_model.specs.declared.table.DmaRequest.{DmaRequest}
use Rattle.dma_model.specs.declared.table.DmaRow.{DmaRow}
use Rattle.dma_rules.specs.Streams.{meets, shape_of}

-- the number of a stream: 0 to 7 are those of controller 1, and 8 to 15 those of controller 2
abbrev pub stream_of : DmaRow → ℕ
stream_of r = 8 * (r.controller - 1) + r.stream

-- the rows that a request has at the positions of a run
abbrev pub rows_in : DmaRequest → Run → List DmaRow
rows_in r run = slice_range r.at run.low (run.high + 1)

abbrev pub has_stream : List DmaRow → ℕ → Bool
has_stream rows s = list_any (λ r. stream_of r == s) rows

-- whether the request of a variable can have a stream in the box
abbrev pub can_have : List DmaRequest → List Run → ℕ → ℕ → Bool
can_have [] box v = λ s. false
can_have (r ∷ rs) [] v = λ s. false
can_have (r ∷ rs) (run ∷ runs) zero = has_stream (rows_in r run)
can_have (r ∷ rs) (run ∷ runs) (suc v) = can_have rs runs v

-- the requests that some largest assignment of streams leaves out, where not all can have one of their own
abbrev pub hall_in : List DmaRequest → List Run → Option VarSet
hall_in requests box = hall_of (length requests) 192 (can_have requests box)

-- how many streams some requests can have together
abbrev pub streams_of : List DmaRequest → List Run → VarSet → ℕ
streams_of requests box vars = sum_below 192 (λ s. one_if (is_wanted (length requests) (can_have requests box) vars s))

-- the variables are all of requests
unfoldable pub are_requests : ℕ → VarSet → Bool
are_requests count vars = not (any_below 192 (λ v. in_set vars v && not (nat_lt v count)))

-- requests that are more than the streams that they can have together
unfoldable pub hall_refutes : List DmaRequest → List Run → VarSet → Bool
hall_refutes requests box vars = are_requests (length requests) vars && nat_lt (streams_of requests box vars) (sum_below 192 (λ v. one_if (in_set vars v)))

-- the class of pins stands for streams; no other reason refutes a box
abbrev pub reason_refutes : List DmaRequest → Reason → List Run → Bool
reason_refutes requests (Hall Pins vars) box = hall_refutes requests box vars
reason_refutes requests (Hall Exti vars) box = false
reason_refutes requests (Limit k) box = false

abbrev pub verdict_from : Option VarSet → Bool → Verdict
verdict_from (Some vars) single = Bad (Hall Pins vars)
verdict_from None true = Legal
verdict_from None false = Open

abbrev pub dma_verdict : List DmaRequest → List Run → Verdict
dma_verdict requests box = verdict_from (hall_in requests box) (is_single box)

abbrev pub dma_meaning : List DmaRequest → Meaning
dma_meaning requests = record { shape = shape_of requests; legal = meets requests; refutes = reason_refutes requests; verdict = dma_verdict requests }

-- the stream has a number
pub record IsStream (r : DmaRow) : Type 0 where
  pub low : 1 ≤ r.controller
  pub high : r.controller ≤ 2
  pub stream : r.stream ≤ 7

-- 1 to 8 rows, each of a stream
pub record HasRows (r : DmaRequest) : Type 0 where
  pub some : 1 ≤ length r.at
  pub few : length r.at ≤ 8
  pub streams : Each IsStream r.at

-- what a judge keeps of the wanted requests
pub record CanBeJudged (requests : List DmaRequest) : Type 0 where
  pub few : length requests ≤ 16
  pub rows : Each HasRows requests
