-- What inputs tell of their files, and how much of one was taken.
use Rattle.std.specs.Prelude.{ℕ, ◌≡◌, ◌≤◌, ◌<◌, List, Option, Some, None, Result, Ok, Err, option_and_then, length, ⊤}
use Rattle.refusal.specs.declared.refusal.Refusal.{Refusal}
use Rattle.refusal.specs.declared.refusal.Refusal.TheVariants.{Fault, OutOfMemory}
use Rattle.res_io.specs.declared.inputs.ReadFault.{ReadFault}
use Rattle.res_io.specs.declared.inputs.ReadFault.TheVariants.{Failed, TooLong}

-- the bytes of a name, where a map is told and has it
abbrev pub file_of : Option (List ℕ → Option (List ℕ)) → List ℕ → Option (List ℕ)
file_of files name = option_and_then (λ map. map name) files

-- these are the bytes, where they are told
abbrev pub Tells : Option (List ℕ) → List ℕ → Type 0
Tells None bytes = ⊤
Tells (Some all) bytes = bytes ≡ all

-- what is left is all of the file, where it is told
abbrev pub IsWhole : Option (List ℕ) → Option (List ℕ) → Type 0
IsWhole None left = ⊤
IsWhole (Some all) left = left ≡ Some all

-- the name is open, and more than the most bytes of an input were taken of it
pub record IsOverLimit (name : List ℕ) (current : Option (List ℕ)) (taken : ℕ) : Type 0 where
  pub is_open : current ≡ Some name
  pub over : 67108864 < taken

-- no name is open, or at most that many were taken of it
abbrev pub IsWithinLimit : Option (List ℕ) → ℕ → Type 0
IsWithinLimit None taken = ⊤
IsWithinLimit (Some name) taken = taken ≤ 67108864

-- too long is answered exactly where the open name is over the limit; out of memory says nothing
abbrev pub TellsLimit : {X : Type 0} → Result X (Refusal ReadFault) → List ℕ → Option (List ℕ) → ℕ → Type 0
TellsLimit (Ok bytes) name current taken = IsWithinLimit current taken
TellsLimit (Err (Fault Failed)) name current taken = IsWithinLimit current taken
TellsLimit (Err (Fault TooLong)) name current taken = IsOverLimit name current taken
TellsLimit (Err OutOfMemory) name current taken = ⊤

-- the file is longer than the limit, where it is told
abbrev pub IsLonger : Option (List ℕ) → Type 0
IsLonger None = ⊤
IsLonger (Some all) = 67108864 < length all
