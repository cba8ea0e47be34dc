use Rattle.std.proofs.Common.{◌≡◌, length}
use Rattle.text_lines.specs.Lines.{lines_of}
use Rattle.res_model.specs.Steps.{with_prefix}
use Rattle.reg_trace.specs.Reading.{answers_from, most}
use Rattle.reg_trace.proofs.reading.read_answers.Given as goal

abbrev pub invariant-lines : goal.invariant-lines
invariant-lines l = answers_from 1 most (lines_of l.text) ≡ with_prefix l.answers.items (answers_from l.number l.room (lines_of l.rest))

abbrev pub decreases-lines : goal.decreases-lines
decreases-lines l = length l.rest
