-- What a call has done that reads inputs of these names: the text that is due where the inputs tell their bytes, and the
-- cause of each other answer.
use Rattle.std.specs.Prelude.{◌≡◌, ◌≢◌, ◌⊎◌, ℕ, List, [], ◌∷◌, ◌++◌, IfSome, Result, Ok, Err, codes, take, is_some}
use Rattle.std.specs.Io.KnownBytes.{Appends}
use Rattle.answers.specs.Said.{number_of}
use Rattle.answers.specs.declared.answer.Answer.{Answer}
use Rattle.answers.specs.declared.answer.Status.{Status}
use Rattle.answers.specs.declared.answer.Status.TheVariants.{ReadFailed, TooLong, WriteFailed, OutOfMemory}
use Rattle.call_io.specs.Inputs.{Files, Input, Reads, Wrote, inputs_told}
use Rattle.res_base.specs.Lists.{Member}
use Rattle.res_io.specs.Bytes.{IsOverLimit}
use Rattle.res_io.specs.Causes.{Rose}

-- the answer is the one that is due, where the inputs are told
abbrev pub TellsDue : Files → List (List ℕ) → (List Input → Answer → Type 0) → Answer → Type 0
TellsDue files names due a = IfSome (inputs_told files names) (λ inputs. due inputs a)

-- the count of this name rose, and the text says so
pub record FailedAt (before after : Reads) (text name : List ℕ) : Type 0 where
  pub rose : Rose (before.faults name) (after.faults name)
  pub says : text ≡ (codes "read failed: " ++ name) ++ 10 ∷ []

-- one of these inputs failed
abbrev pub IsReadFault : List (List ℕ) → Reads → Reads → List ℕ → Type 0
IsReadFault names before after text = (name : List ℕ) × Member name names × FailedAt before after text name

-- one of these inputs is open at the end, more bytes of it were taken than an input may have, and the text says so
abbrev pub IsTooLong : List (List ℕ) → Reads → List ℕ → Type 0
IsTooLong names after text = (name : List ℕ) × Member name names × IsOverLimit name after.current after.taken × (text ≡ (codes "too long: " ++ name) ++ 10 ∷ [])

-- where one of these inputs is, the status says so
abbrev pub IsToldIfLong : List (List ℕ) → Reads → Status → Type 0
IsToldIfLong names after status = (name : List ℕ) → Member name names → IsOverLimit name after.current after.taken → status ≡ TooLong

-- a status that no failed write and no lack of memory answers
pub record IsOwn (status : Status) : Type 0 where
  pub no_write_fault : status ≢ WriteFailed
  pub no_memory : status ≢ OutOfMemory

-- an answer before it is written: what is due for the inputs; or which of them failed; or which is too long
pub record Served (names : List (List ℕ)) (owed : List Input → Answer → Type 0) (before after : Reads) (a : Answer) : Type 0 where
  pub own : IsOwn a.status
  pub due : a.status ≢ ReadFailed → TellsDue before.files names owed a
  pub failed : a.status ≡ ReadFailed → IsReadFault names before after a.text
  pub too_long : a.status ≡ TooLong → IsTooLong names after a.text
  pub told : IsToldIfLong names after a.status

-- the text was appended where written bytes are told, and they are told after it exactly where they were before
abbrev pub Writes : Wrote → Wrote → List ℕ → Type 0
Writes before after text = Appends before.bytes after.bytes text × (is_some after.bytes ≡ is_some before.bytes)

-- the text of an answer was written whole, and the call ended with its status; or a prefix of it, since the sink failed
pub data WroteText (a : Answer) (out_before out_after : Wrote) (status : Status) : Type 0 where
  whole : status ≡ a.status → Writes out_before out_after a.text → WroteText a out_before out_after status
  part : (n : ℕ) → status ≡ WriteFailed → Rose out_before.faults out_after.faults → Writes out_before out_after (take n a.text) → WroteText a out_before out_after status

-- an answer was written; where there is none for lack of memory, nothing was, and no write failed
abbrev pub IsWritten : {E : Type 0} → Result Answer E → Wrote → Wrote → Status → Type 0
IsWritten (Ok a) out_before out_after status = WroteText a out_before out_after status
IsWritten (Err e) out_before out_after status = (status ≡ OutOfMemory) × (out_after ≡ out_before)

-- what a call has done that ended with this status: it wrote an answer that is due, or that says which input failed or is
-- too long; or a prefix of such a text, and the sink failed; or nothing, for lack of memory, and no write failed
pub data Ended (names : List (List ℕ)) (owed : List Input → Answer → Type 0) (before after : Reads) (out_before out_after : Wrote) (status : Status) : Type 0 where
  answered : (a : Answer) → Served names owed before after a → WroteText a out_before out_after status → Ended names owed before after out_before out_after status
  starved : status ≡ OutOfMemory → out_after ≡ out_before → Ended names owed before after out_before out_after status

-- the same of the number of the status
abbrev pub Ran : List (List ℕ) → (List Input → Answer → Type 0) → Reads → Reads → Wrote → Wrote → ℕ → Type 0
Ran names owed before after out_before out_after number = (status : Status) × (number ≡ number_of status) × Ended names owed before after out_before out_after status

-- where nothing of the outside fails, a call ends with the status of the answer that is due, or with 9 for lack of memory
abbrev pub Answers : Files → List (List ℕ) → (List Input → Answer → Type 0) → ℕ → Type 0
Answers files names owed number = (number ≡ 9) ⊎ ((a : Answer) × (number ≡ number_of a.status) × TellsDue files names owed a)

-- no count of these names rose in a call, nor the sink's
pub record NoneFailed (names : List (List ℕ)) (before after : Reads) (out_before out_after : Wrote) : Type 0 where
  pub reads : (name : List ℕ) → Member name names → Rose (before.faults name) (after.faults name) → ⊥
  pub writes : Rose out_before.faults out_after.faults → ⊥
