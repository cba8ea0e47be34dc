-- What is due where a C text is traced.
use Rattle.std.specs.Prelude.{◌≡◌, ℕ, ◌+◌, List, ◌++◌, Ok, Err, codes, decimal}
use Rattle.answers.specs.Said.{Says, answered}
use Rattle.answers.specs.declared.answer.Answer.{Answer}
use Rattle.answers.specs.declared.answer.Status.TheVariants.{AnswersRefused, CTextRefused, Done, TraceTooLong}
use Rattle.c_print.specs.Reading.{Reads}
use Rattle.res_model.specs.declared.table.TableParts.{TableParts}
use Rattle.reg_machine.specs.declared.op.Answer as op
use Rattle.reg_machine.specs.declared.op.Op.{Op}
use Rattle.reg_machine.specs.declared.state.Target.{Target}
use Rattle.reg_trace.specs.Reading.{answers_of}
use Rattle.reg_trace.specs.Trace.{trace_of}
use Rattle.reg_trace.specs.declared.fault.AnswerFault.TheVariants as answer_fault
use Rattle.reg_trace.specs.declared.fault.TraceFault.TheVariants as trace_fault
use Rattle.trace_answer.specs.Part.{part_in}

-- for accesses and answers: the trace, or that the run is too long
pub data OfRun (t : TableParts) (want : Target) (ops : List Op) (answers : List op.Answer) (a : Answer) : Type 0 where
  shown : (text : List ℕ) → trace_of t want ops answers ≡ Ok text → a ≡ answered Done text → OfRun t want ops answers a
  long : trace_of t want ops answers ≡ Err trace_fault.Long → Says a TraceTooLong (codes "trace: long") → OfRun t want ops answers a

-- for accesses and the text of answers: or the line at which the text is refused
pub data OfAnswers (t : TableParts) (want : Target) (ops : List Op) (text : List ℕ) (a : Answer) : Type 0 where
  unsaid : (line : ℕ) → answers_of text ≡ Err (answer_fault.Line line) → Says a AnswersRefused (codes "answers: line " ++ decimal line) → OfAnswers t want ops text a
  said : (answers : List op.Answer) → answers_of text ≡ Ok answers → OfRun t want ops answers a → OfAnswers t want ops text a

-- for a file and the text of answers: or the line of the file at which its C text is refused
pub data OfTrace (t : TableParts) (want : Target) (file text : List ℕ) (a : Answer) : Type 0 where
  unread : (line : ℕ) → Reads (part_in file).text (Err line) → Says a CTextRefused (codes "c: line " ++ decimal ((part_in file).before + line)) → OfTrace t want file text a
  read : (ops : List Op) → Reads (part_in file).text (Ok ops) → OfAnswers t want ops text a → OfTrace t want file text a
