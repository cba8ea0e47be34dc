-- For tests: a sink in memory, as its user sees it, and what a put makes of it.
use Rattle.std.specs.Prelude.{ℕ, ◌-◌, min, Bool, ◌||◌, ◌==◌, List, ◌++◌, length, take, Result, Ok, Err, if◌then◌else◌}
use Rattle.res_io.specs.Calls.{one_more, is_listed}
use Rattle.res_io.specs.declared.sink.Failed.{Failed}

-- the bytes written, the count of faults, the numbers of the puts that fail, how many puts came, the most
-- bytes of a put, and the room that is left
pub record SinkState : Type 0 where
  pub written : List ℕ
  pub faults : ℕ
  pub failing : List ℕ
  pub calls : ℕ
  pub piece : ℕ
  pub room : ℕ

-- a put fails where its number is listed, and where no room is left
abbrev pub put_fails : SinkState → Bool
put_fails s = is_listed s.failing s.calls || (s.room == 0)

-- how many bytes of a piece a put takes
abbrev pub put_count : SinkState → ℕ → ℕ
put_count s len = min (min s.piece len) s.room

abbrev pub put_answer : SinkState → List ℕ → Result ℕ Failed
put_answer s bytes = if put_fails s then Err (record {}) else Ok (put_count s (length bytes))

-- the sink after a put
abbrev pub after_put : SinkState → List ℕ → SinkState
after_put s bytes =
    if put_fails s
    then record s { faults = one_more s.faults; calls = one_more s.calls }
    else record s {
      written = s.written ++ take (put_count s (length bytes)) bytes;
      calls = one_more s.calls;
      room = s.room - put_count s (length bytes);
    }
