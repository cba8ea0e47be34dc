-- A status and the text that goes with it.
use Rattle.std.specs.Prelude.{◌≡◌, ℕ, List, [], ◌∷◌, ◌++◌}
use Rattle.answers.specs.declared.answer.Answer.{Answer}
use Rattle.answers.specs.declared.answer.Status.{Status}
use Rattle.answers.specs.declared.answer.Status.TheVariants.{Done, NoChoice, Usage, ReadFailed, TooLong, TableRefused, ProjectRefused, TooWide, WriteFailed, OutOfMemory, ProofRefused, WriteBackRefused, RequestRefused, CTextRefused, AnswersRefused, TraceTooLong}

-- this status, and this text
abbrev pub answered : Status → List ℕ → Answer
answered status text = record { status = status; text = text }

-- this status, and a line of this text
abbrev pub Says : Answer → Status → List ℕ → Type 0
Says a status text = a ≡ answered status (text ++ 10 ∷ [])

-- the exit status of the process
abbrev pub number_of : Status → ℕ
number_of Done = 0
number_of NoChoice = 1
number_of Usage = 2
number_of ReadFailed = 3
number_of TooLong = 4
number_of TableRefused = 5
number_of ProjectRefused = 6
number_of TooWide = 7
number_of WriteFailed = 8
number_of OutOfMemory = 9
number_of ProofRefused = 10
number_of WriteBackRefused = 12
number_of RequestRefused = 13
number_of CTextRefused = 14
number_of AnswersRefused = 15
number_of TraceTooLong = 16
