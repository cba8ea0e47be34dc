-- A text whose next line has no end.
use Rattle.std.proofs.Common.{◌<◌, length, rules}
use Rattle.reg_trace.specs.Reading.{answers_of}
use Rattle.reg_trace.proofs.ReadLemmas.{line_refused, no_end}
use Rattle.reg_trace.proofs.reading.read_answers.Goals as goal

pub returns-in_default : goal.returns-in_default
unfolding answers_of
returns-in_default c =
    let l = c.lines in
    let some : 0 < length l.rest.now = search rules in
    line_refused _ l.answers.items l.number l.room _ l.invariant (no_end l.number l.room l.rest.now some c.in_default.ensures.none)
