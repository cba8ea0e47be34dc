-- Internal: how inputs are read one after the other.
use Rattle.std.specs.Prelude.{◌≡◌, ◌≢◌, ◌≤◌, ◌⊎◌, ℕ, List, [], ◌∷◌, ◌++◌, length, map, None, codes, ⊤}
use Rattle.answers.specs.Said.{Says}
use Rattle.answers.specs.declared.answer.Answer.{Answer}
use Rattle.answers.specs.declared.answer.Status.{Status}
use Rattle.answers.specs.declared.answer.Status.TheVariants.{ReadFailed, TooLong, Usage}
use Rattle.call_io.specs.Inputs.{Files, Input, Reads, first_long}
use Rattle.call_io.specs.Ran.{IsOwn}
use Rattle.call_io.specs.declared.inputs.Taken.{Taken}
use Rattle.call_io.specs.declared.inputs.Taken.TheVariants as taken
use Rattle.call_io.specs.declared.inputs.Gathered.{Gathered}
use Rattle.call_io.specs.declared.inputs.Gathered.TheVariants as gathered
use Rattle.res_io.specs.Bytes.{IsLonger, IsOverLimit, IsWithinLimit, Tells, file_of}
use Rattle.res_io.specs.Causes.{Rose}

-- the bytes of a name, where they are told, and no more than an input may have
pub record IsRead (files : Files) (name bytes : List ℕ) : Type 0 where
  pub told : Tells (file_of files name) bytes
  pub few : length bytes ≤ 67108864

-- the bytes of each name
abbrev pub AllRead : Files → List (List ℕ) → List (List ℕ) → Type 0
AllRead files [] [] = ⊤
AllRead files [] (bytes ∷ read) = ⊥
AllRead files (name ∷ names) [] = ⊥
AllRead files (name ∷ names) (bytes ∷ read) = IsRead files name bytes × AllRead files names read

-- an input was not read: its count rose, or it is too long
pub data Unread (before after : Reads) (name : List ℕ) (a : Answer) : Type 0 where
  failed : Rose (before.faults name) (after.faults name) → IsWithinLimit after.current after.taken → Says a ReadFailed (codes "read failed: " ++ name) → Unread before after name a
  long : IsLonger (file_of before.files name) → IsOverLimit name after.current after.taken → Says a TooLong (codes "too long: " ++ name) → Unread before after name a

abbrev pub IsTaken : List ℕ → Reads → Reads → Taken → Type 0
IsTaken name before after (taken.Whole bytes) = IsRead before.files name bytes × IsWithinLimit after.current after.taken
IsTaken name before after (taken.Refused a) = Unread before after name a

-- none of the names is open with too many bytes taken
abbrev pub IsClear : List (List ℕ) → Reads → Type 0
IsClear names after = (names ≡ []) ⊎ IsWithinLimit after.current after.taken

-- those before a name were read, and it was not
pub record Stopped (names : List (List ℕ)) (before after : Reads) (a : Answer) : Type 0 where
  pub earlier : List (List ℕ)
  pub name : List ℕ
  pub later : List (List ℕ)
  pub read : List (List ℕ)
  pub cut : names ≡ earlier ++ name ∷ later
  pub all_read : AllRead before.files earlier read
  pub unread : Unread before after name a

abbrev pub IsGathered : List (List ℕ) → Reads → Reads → Gathered → Type 0
IsGathered names before after (gathered.Files read) = AllRead before.files names read.items × IsClear names after
IsGathered names before after (gathered.Refused a) = Stopped names before after a

-- inputs that have these bytes, none of which is too long
pub record AreSeen (read : List (List ℕ)) (inputs : List Input) : Type 0 where
  pub bytes : map (λ (i : Input). i.bytes) inputs ≡ read
  pub none_long : first_long inputs ≡ None

-- a status of an answer to inputs that were read: neither that one was not read nor that the answer was not written
pub record IsOfInputs (status : Status) : Type 0 where
  pub own : IsOwn status
  pub no_read_fault : status ≢ ReadFailed
  pub no_length : status ≢ TooLong

-- such a status that does not blame the words
pub record IsOfBytes (status : Status) : Type 0 where
  pub of_inputs : IsOfInputs status
  pub no_usage : status ≢ Usage
